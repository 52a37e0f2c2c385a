-- Every promise of the project, in the order of the demands and of the requests that are built: the index of all definitions. One theorem shows
-- them all. The comment over a field is the promise in a sentence; README's table of promises is made of them.
use Rattle.std.specs.Prelude.{List, ℕ, T}
use Rattle.lists.specs.Lists.{all}
use Rattle.lists.specs.Decide.{all_of}
use Rattle.meaning.specs.Table.{Table}
use Rattle.meaning.specs.WellFormed.{WellFormed}
use Rattle.meaning.specs.Claims.{CheckAccepts, CheckRefuses, ValuesTested, DirectAnswers, DirectAccepts, DirectRefuses}
use Rattle.meaning.specs.Choices.{NeverBoth}
use Rattle.meaning.specs.Answered.{table_order, EndsApart}
use Rattle.meaning.specs.Digits.{DigitsOut}
use Rattle.meaning.specs.AnyOrder.{TermsInAnyOrder}
use Rattle.meaning.specs.Pairs.{PairsMeant}
use Rattle.automaton.specs.Claims.{StatesOfWords, CompileAnswers, CompileAccepts, CompileRefuses, CompiledSound}
use Rattle.automaton.specs.Answered.{compile_order}
use Rattle.automaton.specs.Digits.{DigitWords}
use Rattle.automaton.specs.Starts.{StartsInPlace}
use Rattle.automaton.specs.Witness.{RulesChecked, SecondOfT3}
use Rattle.automaton.specs.AnyOrder.{CompiledAlike}
use Rattle.automaton.specs.Pairs.{PairWords}
use Rattle.reckoning.specs.Claims.{OutcomesAgree, CallsAnswer, CallsKeep, SoundAddsUp, RefusesOthers}
use Rattle.reckoning.specs.Serves.{Demand3, UsesAddUp, NothingHeld, Serves}
use Rattle.reckoning.specs.Answered.{call_order, chain_order}
use Rattle.reckoning.specs.Append.{FeedsJoin, PartsAccepted, StopsJoin, FinishJoins}
use Rattle.reckoning.specs.Chain.{ChainTests, ChainCallsAnswer, ChainsMade}
use Rattle.reckoning.specs.ChainServes.{ChainsAgree, ChainLimited, ChainEnds, ChainServes}
use Rattle.reckoning.specs.Preview.{LooksAhead}
use Rattle.reckoning.specs.Examples.{holds, rows}
use Rattle.reckoning.specs.Instances.{Instances, HeldInstances}
use Rattle.reckoning.specs.Pairs.{PairsRun}
use Rattle.typed.specs.Claims.{TypedRules}
use Rattle.session.specs.Caller as Code
use Rattle.session.specs.Preview.{PreviewTells}
use Rattle.chain.specs.Caller as CodeChain
use Rattle.cobbletwill.specs.Answers.{ChecksAnswer, ConvertsAnswer, CompilesAnswer}
use Rattle.cobbletwill.specs.Caller as Face
use Rattle.cobbletwill.specs.Claims.{Faithful, FeedsAnswer, FinishesAnswer, OtherStatuses, FinishesEnd, PreviewsAnswer, PreviewsFeed}
use Rattle.cobbletwill.specs.ChainCaller as FaceChain
use Rattle.cobbletwill.specs.ChainClaims.{ChainsAnswer, ChainStatuses}
use Rattle.cobbletwill.specs.Witness.{WitnessesTell}
use Rattle.cobbletwill.specs.Typed.{TypedTextsAnswer, TypedTextsDetermined}
use Rattle.station.specs.Claims.{InTwo, TextInTwo, Passes}
use Rattle.program.specs.Claims.{PrintsMeaning}
use Rattle.promises.specs.Promised.{Contracts}
use Rattle.promises.specs.Program.{Program}

pub record Promises : Type 2 where
  -- # The code
  -- Every entry point asks nothing of its caller, has the contract that is written down for it, and is proved to meet it
  pub contracts : Contracts
  -- # Demand 1: an accepted answer or a numbered refusal, with the paper's effect on every buffer
  -- Direct conversion answers, or refuses by number and changes nothing; what is beyond its text stays as found
  pub direct_answers : (table input buffer : List ℕ) → DirectAnswers table input buffer
  -- Compiling answers, or refuses by number and leaves its words zero or, by 10, as found; what is beyond them stays as found
  pub compile_answers : (table buffer : List ℕ) → CompileAnswers table buffer
  -- Feed and finish answer, or refuse by number and change nothing, for any words, session and buffer
  pub calls_answer : CallsAnswer
  -- An accepted feed or finish leaves a sound session
  pub calls_keep : CallsKeep
  -- In C, the table check answers 0 or a number from 1 to 7, and 0 exactly for tables that keep the rules
  pub c_checks_answer : ChecksAnswer
  -- In C, direct conversion answers 0, 64 or a refusal, by which nothing is changed, and 0 or 64 with Definition 7's text and place
  pub c_converts_answer : ConvertsAnswer
  -- In C, compiling answers 0 or a refusal, and leaves the words as the paper says
  pub c_compiles_answer : CompilesAnswer
  -- In C, feed answers 0, 64, 65 or a refusal, by which nothing is changed
  pub c_feeds_answer : FeedsAnswer
  -- In C, so does finish
  pub c_finishes_answer : FinishesAnswer
  -- In C, a finished session does not wait for more
  pub c_finishes_end : FinishesEnd
  -- In C, numbers that are no session's are refused by 11 where the words are not sound, and else by 12
  pub c_other_statuses : OtherStatuses
  -- In C, a session's numbers and the session are the same, and all zeros are the fresh one
  pub c_faithful : Faithful
  -- # Demand 2: accepted exactly when the rules are kept, and Definition 7's text
  -- A table is accepted exactly when its bytes are the records of a well formed table and every output value is a character for every word that fits
  pub check_accepts : (table : List ℕ) → CheckAccepts table
  -- A refusal by 1 to 6 says that the bytes are the records of no such table, and 7 that an output value may leave 0 to 65535
  pub check_refuses : (table : List ℕ) → CheckRefuses table
  -- Refusal 7's computed test is "every word that fits"
  pub values_tested : ValuesTested
  -- Direct conversion accepts exactly these tables, the lengths being those asked, and gives the text and place of Definition 7
  pub direct_accepts : (table input buffer : List ℕ) → DirectAccepts table input buffer
  -- Its refusals are the table check's, or say which length is wrong
  pub direct_refuses : (table input buffer : List ℕ) → DirectRefuses table input buffer
  -- Compiling accepts exactly the tables that keep the rules for it, and leaves their machine words
  pub compile_accepts : (table buffer : List ℕ) → CompileAccepts table buffer
  -- Its refusals are the table check's, or speak of classes, states and room
  pub compile_refuses : (table buffer : List ℕ) → CompileRefuses table buffer
  -- A state is the set of all rules that fit some word so far
  pub states_of_words : (t : Table) → WellFormed t → StatesOfWords t
  -- Compiled words are sound
  pub compiled_sound : CompiledSound
  -- # Demand 3: no sequence of pieces can make a compiled machine depart from the rules
  -- Any list of feeds and finishes, in Rattle or in C, writes, leaves and counts what the plain machine does on the whole input, and in the end Definition 7's text
  pub demand_3 : Demand3 Code.caller × Demand3 Face.caller
  -- # Lists of calls, and pieces cut anywhere
  -- Whoever makes calls, in Rattle or in C, has all that is promised of lists of them
  pub serves : Serves Code.caller × Serves Face.caller
  -- Demand 3 of the outcome functions
  pub outcomes_agree : OutcomesAgree
  -- Two accepted feeds do together what one feed of the joined piece does
  pub feeds_join : FeedsJoin
  -- Where a piece is accepted, so are its parts, with enough output, one after the other
  pub parts_accepted : PartsAccepted
  -- A part that stops the session does what the whole piece does
  pub stops_join : StopsJoin
  -- A finish after the parts is a finish after the whole
  pub finish_joins : FinishJoins
  -- # Which refusal is answered
  -- Of two faults of a table, or of a direct conversion, the one that is tested first is answered: a small case for each two
  pub tables_in_order : T (all_of table_order)
  -- The two that are tested at the table's end, 4 and 5, never meet
  pub ends_apart : EndsApart
  -- The same of compiling's own refusals
  pub compiling_in_order : T (all_of compile_order)
  -- The same of feed, finish and preview
  pub calls_in_order : T (all_of call_order)
  -- The same of a chain, whose refusals 11 to 14 are each tested for the first and then the second, and then 18 and 15
  pub chains_in_order : T (all_of chain_order)
  -- # Request [1]: hexadecimal digits out
  -- Where the record of a digit may stand, what it writes and when it is refused
  pub digits_out : DigitsOut
  -- A digit's words, what sound words ask of them, and the sizes of blocks and words
  pub digit_words : DigitWords
  -- # Request [2]: how often each rule was used
  -- After any list of calls from any sound session, in Rattle or in C, the counts times the lengths of their patterns add up to the characters consumed
  pub uses_add_up : UsesAddUp Code.caller × UsesAddUp Face.caller
  -- A sound session satisfies this too
  pub sound_adds_up : SoundAddsUp
  -- One that does not is refused by 12
  pub refuses_others : RefusesOthers
  -- # Request [3]: class starts without the side list
  -- After each range met, until a 65th start, the words from 6 are 0 and the starts met so far, rising and without repeats, with zeros behind
  pub starts_in_place : StartsInPlace
  -- # Request [4]: rules typed at the station
  -- The grammar gives a text one list of lines at most; each text and buffer has one outcome, told by it; and converting under the records that are written is what the text means
  pub typed_rules : TypedRules
  -- In C, a typed text is answered by 0 or a refusal, by which nothing is changed, and the numbers tell the outcome
  pub c_typed_texts_answer : TypedTextsAnswer
  -- In C, each text and buffer has one outcome
  pub c_typed_texts_determined : TypedTextsDetermined
  -- # Request [5]: look before the modem wakes
  -- A preview answers what every feed with enough output answers, and the session that it leaves; it is refused as feed is, by 15 never
  pub looks_ahead : LooksAhead
  -- Of the code: a feed answers and leaves what the preview before it told
  pub preview_tells : PreviewTells
  -- In C, a preview answers 64, 65 or a refusal, by which nothing is changed
  pub c_previews_answer : PreviewsAnswer
  -- In C, a preview answers and leaves what a feed with enough output does
  pub c_previews_feed : PreviewsFeed
  -- # Request [6]: rules that can never be chosen
  -- A rule is called dead exactly when no input has Definition 7 choose it anywhere; for any other an input of 1 to 9 characters is given on which it is the first choice
  pub rules_checked : RulesChecked
  -- The same in C's numbers, with compiling's refusals and effects
  pub c_witnesses_tell : WitnessesTell
  -- # Request [7]: terms in any order
  -- Tables that differ only in the order of terms are read to the same table and convert alike; only a repeated position is refused, by 3
  pub terms_in_any_order : TermsInAnyOrder
  -- They compile to equal words and are accepted alike
  pub compiled_alike : CompiledAlike
  -- # Request [8]: pairs outside the basic plane
  -- Under the mark, where no rule fits, the default takes a pair whole and writes it unchanged, and any other unit alone; a rule that fits goes first; a mark other than 0 and 1 is refused by 2; E is at least 1
  pub pairs_meant : PairsMeant
  -- Header word 5 is 2 for this mode alone, and in sound words E is then at least 1
  pub pair_words : PairWords
  -- A pair costs two takes and one emit after the back; a first unit with nothing readable after it is held at state 0, its back counted once, and sound sessions allow just this
  pub pairs_run : PairsRun
  -- # Request [9]: nothing held without need
  -- After any list of calls of a compiled machine from a fresh session, in Rattle or in C: an open session that holds characters has two ways for the input to go on, ending there included, under which Definition 7 makes different choices at the place of the first held character; at each place before it the choice is the same however the input goes on
  pub nothing_held : NothingHeld Code.caller × NothingHeld Face.caller
  -- No place of an input is both open so and decided
  pub never_both : NeverBoth
  -- # Request [10]: two tables in a row
  -- After any list of a chain's calls from fresh sessions, in Rattle or in C: the output and both sessions are those of the two plain machines, the second's over what the first wrote; once a finish is accepted or the second stops, the output is the second definition applied to the first one's text, where the first definition closes; where the first stops and the second doesn't, it is what feeding the second that text gives
  pub chains_agree : ChainsAgree CodeChain.caller × ChainsAgree FaceChain.caller
  -- Refusal 14 doesn't occur while the characters in all and the first's E times as many are within the limit
  pub chain_limited : ChainLimited CodeChain.caller × ChainLimited FaceChain.caller
  -- Once a finish was accepted, or either session has stopped, the next call is refused by 13
  pub chain_ends : ChainEnds CodeChain.caller × ChainEnds FaceChain.caller
  -- Whoever makes a chain's calls, in Rattle or in C, has all of this
  pub chain_serves : ChainServes CodeChain.caller × ChainServes FaceChain.caller
  -- An accepted call is the first's feed or finish into the middle buffer, the second's feed of what the first wrote and, where a finish closed the first and the second is open, the second's finish, whose text stands behind
  pub chains_made : ChainsMade
  -- A chain's call is accepted exactly when the words and sessions of both are sound, both are open, neither would receive too much, and the middle buffer and the output have the least lengths asked
  pub chain_tests : ChainTests
  -- A chain's call answers the second's count and both statuses, or refuses by number and changes nothing: sessions, middle buffer and output; what is beyond the texts stays as found
  pub chain_calls_answer : ChainCallsAnswer
  -- In C, a chain's feed and finish answer 0, 64, 65 or a refusal, by which nothing is changed
  pub c_chains_answer : ChainsAnswer
  -- In C, where either's numbers are no session's they are refused by 11 if the words of either are not sound, and else by 12
  pub c_chain_statuses : ChainStatuses
  -- # The program
  -- For some input of as many bytes as were read, it hands to its writes what the list of turns prints, each from the session that the last one left, the first from a fresh one under compiling's words; or compiling's refusal, and reads nothing
  pub program : Program
  -- Once the session is closed or stopped, what such turns printed is Definition 7's text of the input, a line a character, and then `end` or `stop` with the definition's place and the plain machine's steps
  pub prints_meaning : PrintsMeaning
  -- # Examples
  -- The eleven lines of document 01 that are marked P, and two of request [1]
  pub rows : T (all holds rows)
  -- Demand 3 on two lists of calls, with document 01's values, and on one of pairs
  pub instances : Instances
  -- Request [9] on two more, T1 after `A&#` and a first unit of a pair, each with two ways to go on
  pub held_instances : HeldInstances
  -- T3's second rule is dead, and its first is not
  pub second_of_t3 : SecondOfT3
  -- A caller who converts an input in two pieces has demand 3 of what is written and left
  pub in_two_lem : InTwo
  -- It is Definition 7's text and place
  pub text_in_two : TextInTwo
  -- Nothing is refused there if the table keeps the rules and the lengths are those asked
  pub passes : Passes
