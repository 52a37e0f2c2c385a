-- Every entry point meets the contract that `Contracts` has for it.
-- It is the theorem of the function's own crate, since the contract there is this one.
use Rattle.rules.proofs.convert.check.Met as check
use Rattle.rules.proofs.convert.convert.Met as convert
use Rattle.typed.proofs.text.from_text.Met as from_text
use Rattle.machine.proofs.compile.compile.Met as compile
use Rattle.witness.proofs.check.witness.Met as witness
use Rattle.words.proofs.sound_words.is_sound.Met as is_sound
use Rattle.session.proofs.kept.fresh.Met as fresh
use Rattle.session.proofs.call.feed.Met as feed
use Rattle.session.proofs.call.finish.Met as finish
use Rattle.session.proofs.call.preview.Met as preview
use Rattle.session.proofs.call.feed_by_value.Met as feed_by_value
use Rattle.session.proofs.call.finish_by_value.Met as finish_by_value
use Rattle.session.proofs.call.preview_by_value.Met as preview_by_value
use Rattle.session.proofs.call.feed_kept.Met as feed_kept
use Rattle.session.proofs.call.finish_kept.Met as finish_kept
use Rattle.session.proofs.call.preview_kept.Met as preview_kept
use Rattle.chain.proofs.call.feed.Met as chain_feed
use Rattle.chain.proofs.call.finish.Met as chain_finish
use Rattle.chain.proofs.call.feed_by_value.Met as chain_feed_by_value
use Rattle.chain.proofs.call.finish_by_value.Met as chain_finish_by_value
use Rattle.chain.proofs.call.feed_kept.Met as chain_feed_kept
use Rattle.chain.proofs.call.finish_kept.Met as chain_finish_kept
use Rattle.station.proofs.two.convert_in_two.Met as convert_in_two
use Rattle.cobbletwill.proofs.cobbletwill_check.Met as c_check
use Rattle.cobbletwill.proofs.cobbletwill_convert.Met as c_convert
use Rattle.cobbletwill.proofs.cobbletwill_from_text.Met as c_from_text
use Rattle.cobbletwill.proofs.cobbletwill_compile.Met as c_compile
use Rattle.cobbletwill.proofs.cobbletwill_witness.Met as c_witness
use Rattle.cobbletwill.proofs.cobbletwill_is_sound.Met as c_is_sound
use Rattle.cobbletwill.proofs.cobbletwill_version.Met as c_version
use Rattle.cobbletwill.proofs.sessions.cobbletwill_feed_parts.Met as c_feed
use Rattle.cobbletwill.proofs.sessions.cobbletwill_finish_parts.Met as c_finish
use Rattle.cobbletwill.proofs.sessions.cobbletwill_preview_parts.Met as c_preview
use Rattle.cobbletwill.proofs.chains.cobbletwill_chain_feed_parts.Met as c_chain_feed
use Rattle.cobbletwill.proofs.chains.cobbletwill_chain_finish_parts.Met as c_chain_finish
use Rattle.promises.specs.Promised.{Contracts}

pub contracts : Contracts
contracts = record {
  check = λ M. check.met;
  convert = λ M. convert.met;
  from_text = λ M. from_text.met;
  compile = λ M. compile.met;
  witness = λ M. witness.met;
  is_sound = λ M. is_sound.met;
  fresh = λ M. fresh.met;
  feed = λ M. feed.met;
  finish = λ M. finish.met;
  preview = λ M. preview.met;
  feed_by_value = λ M. feed_by_value.met;
  finish_by_value = λ M. finish_by_value.met;
  preview_by_value = λ M. preview_by_value.met;
  feed_kept = λ M. feed_kept.met;
  finish_kept = λ M. finish_kept.met;
  preview_kept = λ M. preview_kept.met;
  chain_feed = λ M. chain_feed.met;
  chain_finish = λ M. chain_finish.met;
  chain_feed_by_value = λ M. chain_feed_by_value.met;
  chain_finish_by_value = λ M. chain_finish_by_value.met;
  chain_feed_kept = λ M. chain_feed_kept.met;
  chain_finish_kept = λ M. chain_finish_kept.met;
  convert_in_two = λ M. convert_in_two.met;
  c_check = λ M. c_check.met;
  c_convert = λ M. c_convert.met;
  c_from_text = λ M. c_from_text.met;
  c_compile = λ M. c_compile.met;
  c_witness = λ M. c_witness.met;
  c_is_sound = λ M. c_is_sound.met;
  c_version = λ M. c_version.met;
  c_feed = λ M. c_feed.met;
  c_finish = λ M. c_finish.met;
  c_preview = λ M. c_preview.met;
  c_chain_feed = λ M. c_chain_feed.met;
  c_chain_finish = λ M. c_chain_finish.met;
}
