-- The theorem of all promises: each is the theorem of the crate that it belongs to. A promise without a theorem leaves this record without a
-- field, and the crate is not proved.
use Rattle.meaning.proofs.Laws.Direct.{check_accepts, check_refuses, values_tested, direct_answers, direct_accepts, direct_refuses}
use Rattle.meaning.proofs.Laws.Reading.{ends_apart}
use Rattle.meaning.proofs.Laws.Answered.{tables_in_order}
use Rattle.meaning.proofs.Laws.Choices.{never_both}
use Rattle.meaning.proofs.Laws.Digits.{digits_out}
use Rattle.meaning.proofs.Laws.AnyOrder.{terms_in_any_order}
use Rattle.meaning.proofs.Laws.Pairs.{pairs_meant}
use Rattle.automaton.proofs.Laws.Compile.{compile_answers, compile_accepts, compile_refuses, compiling_sound}
use Rattle.automaton.proofs.Laws.Answered.{compiling_in_order}
use Rattle.automaton.proofs.Laws.Reached.{states_of_words}
use Rattle.automaton.proofs.Laws.Digits.{digit_words}
use Rattle.automaton.proofs.Laws.Starts.{starts_in_place}
use Rattle.automaton.proofs.Laws.Judging.{rules_checked}
use Rattle.automaton.proofs.Laws.SecondOfT3.{second_of_t3}
use Rattle.automaton.proofs.Laws.AnyOrder.{compiled_alike}
use Rattle.automaton.proofs.Laws.Pairs.{pair_words}
use Rattle.reckoning.proofs.Laws.Answers.{calls_answer, calls_keep, sound_adds_up, refuses_others}
use Rattle.reckoning.proofs.Laws.Answered.{calls_in_order, chains_in_order}
use Rattle.reckoning.proofs.Laws.Demand3.{outcomes_agree}
use Rattle.reckoning.proofs.Laws.Append.{feeds_join, parts_accepted, stops_join, finish_joins}
use Rattle.reckoning.proofs.Laws.Chain.{chain_tests}
use Rattle.reckoning.proofs.Laws.Chained.{chain_calls_answer}
use Rattle.reckoning.proofs.Laws.Made.{chains_made}
use Rattle.reckoning.proofs.Laws.Preview.{looks_ahead}
use Rattle.reckoning.proofs.Laws.Examples.{rows_hold}
use Rattle.reckoning.proofs.Laws.Instances.{instances, held_instances}
use Rattle.reckoning.proofs.Laws.Pairs.{pairs_run}
use Rattle.typed.proofs.Laws.Promised.{typed_rules}
use Rattle.session.proofs.Laws.Caller.{code_serves}
use Rattle.session.proofs.Laws.Foreseen.{preview_tells}
use Rattle.chain.proofs.Laws.Caller.{code_chain_serves}
use Rattle.cobbletwill.proofs.Laws.Answers.{checks_answer, converts_answer, compiles_answer}
use Rattle.cobbletwill.proofs.Laws.Caller.{face_serves}
use Rattle.cobbletwill.proofs.Laws.Claims.{faithful, feeds_answer, finishes_answer, other_statuses, finishes_end, previews_answer, previews_feed}
use Rattle.cobbletwill.proofs.Laws.ChainCaller.{face_chain_serves}
use Rattle.cobbletwill.proofs.Laws.ChainClaims.{chains_answer, chain_statuses}
use Rattle.cobbletwill.proofs.Laws.Witness.{witnesses_tell}
use Rattle.cobbletwill.proofs.Laws.Typed.{typed_texts_answer, typed_texts_determined}
use Rattle.station.proofs.Laws.InTwo.{in_two_lem}
use Rattle.station.proofs.Laws.Text.{text_in_two}
use Rattle.station.proofs.Laws.Room.{passes}
use Rattle.program.proofs.Laws.Meaning.{prints_meaning}
use Rattle.promises.specs.Promises.{Promises}
use Rattle.promises.proofs.Laws.Contracts.{contracts}
use Rattle.promises.proofs.Laws.Program.{program}

pub promises : Promises
promises = record {
  contracts = contracts;
  direct_answers = direct_answers;
  compile_answers = compile_answers;
  calls_answer = calls_answer;
  calls_keep = calls_keep;
  c_checks_answer = checks_answer;
  c_converts_answer = converts_answer;
  c_compiles_answer = compiles_answer;
  c_feeds_answer = feeds_answer;
  c_finishes_answer = finishes_answer;
  c_finishes_end = finishes_end;
  c_other_statuses = other_statuses;
  c_faithful = faithful;
  check_accepts = check_accepts;
  check_refuses = check_refuses;
  values_tested = values_tested;
  direct_accepts = direct_accepts;
  direct_refuses = direct_refuses;
  compile_accepts = compile_accepts;
  compile_refuses = compile_refuses;
  states_of_words = states_of_words;
  compiled_sound = compiling_sound;
  demand_3 = (code_serves.demand_3, face_serves.demand_3);
  serves = (code_serves, face_serves);
  outcomes_agree = outcomes_agree;
  feeds_join = feeds_join;
  parts_accepted = parts_accepted;
  stops_join = stops_join;
  finish_joins = finish_joins;
  tables_in_order = tables_in_order;
  ends_apart = ends_apart;
  compiling_in_order = compiling_in_order;
  calls_in_order = calls_in_order;
  chains_in_order = chains_in_order;
  digits_out = digits_out;
  digit_words = digit_words;
  uses_add_up = (code_serves.uses_add_up, face_serves.uses_add_up);
  sound_adds_up = sound_adds_up;
  refuses_others = refuses_others;
  starts_in_place = starts_in_place;
  typed_rules = typed_rules;
  c_typed_texts_answer = typed_texts_answer;
  c_typed_texts_determined = typed_texts_determined;
  looks_ahead = looks_ahead;
  preview_tells = preview_tells;
  c_previews_answer = previews_answer;
  c_previews_feed = previews_feed;
  rules_checked = rules_checked;
  c_witnesses_tell = witnesses_tell;
  terms_in_any_order = terms_in_any_order;
  compiled_alike = compiled_alike;
  pairs_meant = pairs_meant;
  pair_words = pair_words;
  pairs_run = pairs_run;
  nothing_held = (code_serves.nothing_held, face_serves.nothing_held);
  never_both = never_both;
  chains_agree = (code_chain_serves.agree, face_chain_serves.agree);
  chain_limited = (code_chain_serves.limited, face_chain_serves.limited);
  chain_ends = (code_chain_serves.ends, face_chain_serves.ends);
  chain_serves = (code_chain_serves, face_chain_serves);
  chains_made = chains_made;
  chain_tests = chain_tests;
  chain_calls_answer = chain_calls_answer;
  c_chains_answer = chains_answer;
  c_chain_statuses = chain_statuses;
  program = program;
  prints_meaning = prints_meaning;
  rows = rows_hold;
  instances = instances;
  held_instances = held_instances;
  second_of_t3 = second_of_t3;
  in_two_lem = in_two_lem;
  text_in_two = text_in_two;
  passes = passes;
}
