-- The contract of every entry point, as its source states it: what each says of its arguments as found, of its answer and of what it leaves.
-- None asks anything of its caller. A change of a contract has to change this file.
use Rattle.std.specs.Prelude.{List, [], ◌∷◌, ◌≡◌, ℕ, OnErr}
use Rattle.std.specs.Prelude.{Option}
use Rattle.meaning.specs.Refusal.{Outcome}
use Rattle.meaning.specs.Direct.{checked, direct}
use Rattle.automaton.specs.Compile as Compile
use Rattle.automaton.specs.Sound.{sound}
use Rattle.automaton.specs.Witness.{Checked}
use Rattle.reckoning.specs.Session as Session
use Rattle.rules.specs.Answers.{check_of, conversion_of, outcome_of}
use Rattle.typed.specs.Typed.{FromText}
use Rattle.witness.specs.Judged.{judged}
use Rattle.session.specs.Keeping.{session_of, together}
use Rattle.session.specs.Promised.{Feeds, Finishes, Previews, written_of, left_of}
use Rattle.chain.specs.Promised as Chain
use Rattle.station.specs.Two.{in_two}
use Rattle.station.specs.Progress.{turn_of}
use Rattle.cobbletwill.specs.Sessions.{left, previewed}
use Rattle.cobbletwill.specs.Chains as Chains
use Rattle.cobbletwill.specs.Witness.{Witnessed}
use Rattle.cobbletwill.specs.Typed.{TypedFace}
use Rattle.cobbletwill.specs.Promised as Face
use Rattle.rules.specs.contracts.convert.check as check
use Rattle.rules.proofs.convert.check.Symbol as check_code
use Rattle.rules.specs.contracts.convert.convert as convert
use Rattle.rules.proofs.convert.convert.Symbol as convert_code
use Rattle.typed.specs.contracts.text.from_text as from_text
use Rattle.typed.proofs.text.from_text.Symbol as from_text_code
use Rattle.machine.specs.contracts.compile.compile as compile
use Rattle.machine.proofs.compile.compile.Symbol as compile_code
use Rattle.witness.specs.contracts.check.witness as witness
use Rattle.witness.proofs.check.witness.Symbol as witness_code
use Rattle.words.specs.contracts.sound_words.is_sound as is_sound
use Rattle.words.proofs.sound_words.is_sound.Symbol as is_sound_code
use Rattle.session.specs.contracts.kept.fresh as fresh
use Rattle.session.proofs.kept.fresh.Symbol as fresh_code
use Rattle.session.specs.contracts.call.feed as feed
use Rattle.session.proofs.call.feed.Symbol as feed_code
use Rattle.session.specs.contracts.call.finish as finish
use Rattle.session.proofs.call.finish.Symbol as finish_code
use Rattle.session.specs.contracts.call.preview as preview
use Rattle.session.proofs.call.preview.Symbol as preview_code
use Rattle.session.specs.contracts.call.feed_by_value as feed_by_value
use Rattle.session.proofs.call.feed_by_value.Symbol as feed_by_value_code
use Rattle.session.specs.contracts.call.finish_by_value as finish_by_value
use Rattle.session.proofs.call.finish_by_value.Symbol as finish_by_value_code
use Rattle.session.specs.contracts.call.preview_by_value as preview_by_value
use Rattle.session.proofs.call.preview_by_value.Symbol as preview_by_value_code
use Rattle.session.specs.contracts.call.feed_kept as feed_kept
use Rattle.session.proofs.call.feed_kept.Symbol as feed_kept_code
use Rattle.session.specs.contracts.call.finish_kept as finish_kept
use Rattle.session.proofs.call.finish_kept.Symbol as finish_kept_code
use Rattle.session.specs.contracts.call.preview_kept as preview_kept
use Rattle.session.proofs.call.preview_kept.Symbol as preview_kept_code
use Rattle.chain.specs.contracts.call.feed as chain_feed
use Rattle.chain.proofs.call.feed.Symbol as chain_feed_code
use Rattle.chain.specs.contracts.call.finish as chain_finish
use Rattle.chain.proofs.call.finish.Symbol as chain_finish_code
use Rattle.chain.specs.contracts.call.feed_by_value as chain_feed_by_value
use Rattle.chain.proofs.call.feed_by_value.Symbol as chain_feed_by_value_code
use Rattle.chain.specs.contracts.call.finish_by_value as chain_finish_by_value
use Rattle.chain.proofs.call.finish_by_value.Symbol as chain_finish_by_value_code
use Rattle.chain.specs.contracts.call.feed_kept as chain_feed_kept
use Rattle.chain.proofs.call.feed_kept.Symbol as chain_feed_kept_code
use Rattle.chain.specs.contracts.call.finish_kept as chain_finish_kept
use Rattle.chain.proofs.call.finish_kept.Symbol as chain_finish_kept_code
use Rattle.station.specs.contracts.two.convert_in_two as convert_in_two
use Rattle.station.proofs.two.convert_in_two.Symbol as convert_in_two_code
use Rattle.cobbletwill.specs.contracts.cobbletwill_check as c_check
use Rattle.cobbletwill.proofs.cobbletwill_check.Symbol as c_check_code
use Rattle.cobbletwill.specs.contracts.cobbletwill_convert as c_convert
use Rattle.cobbletwill.proofs.cobbletwill_convert.Symbol as c_convert_code
use Rattle.cobbletwill.specs.contracts.cobbletwill_from_text as c_from_text
use Rattle.cobbletwill.proofs.cobbletwill_from_text.Symbol as c_from_text_code
use Rattle.cobbletwill.specs.contracts.cobbletwill_compile as c_compile
use Rattle.cobbletwill.proofs.cobbletwill_compile.Symbol as c_compile_code
use Rattle.cobbletwill.specs.contracts.cobbletwill_witness as c_witness
use Rattle.cobbletwill.proofs.cobbletwill_witness.Symbol as c_witness_code
use Rattle.cobbletwill.specs.contracts.cobbletwill_is_sound as c_is_sound
use Rattle.cobbletwill.proofs.cobbletwill_is_sound.Symbol as c_is_sound_code
use Rattle.cobbletwill.specs.contracts.cobbletwill_version as c_version
use Rattle.cobbletwill.proofs.cobbletwill_version.Symbol as c_version_code
use Rattle.cobbletwill.specs.contracts.sessions.cobbletwill_feed_parts as c_feed
use Rattle.cobbletwill.proofs.sessions.cobbletwill_feed_parts.Symbol as c_feed_code
use Rattle.cobbletwill.specs.contracts.sessions.cobbletwill_finish_parts as c_finish
use Rattle.cobbletwill.proofs.sessions.cobbletwill_finish_parts.Symbol as c_finish_code
use Rattle.cobbletwill.specs.contracts.sessions.cobbletwill_preview_parts as c_preview
use Rattle.cobbletwill.proofs.sessions.cobbletwill_preview_parts.Symbol as c_preview_code
use Rattle.cobbletwill.specs.contracts.chains.cobbletwill_chain_feed_parts as c_chain_feed
use Rattle.cobbletwill.proofs.chains.cobbletwill_chain_feed_parts.Symbol as c_chain_feed_code
use Rattle.cobbletwill.specs.contracts.chains.cobbletwill_chain_finish_parts as c_chain_finish
use Rattle.cobbletwill.proofs.chains.cobbletwill_chain_finish_parts.Symbol as c_chain_finish_code
use Rattle.promises.specs.EntryPoint.{EntryPoint}

-- Each function's arguments are named as in its source, and those that it may change once more, with a dash, as it leaves them.
pub record Contracts : Type 2 where
  -- rules::convert::check
  pub check : EntryPoint check.ended check_code.name check_code.code
      (λ κs (table, _) verdict _. (check_of verdict ≡ checked table.now) ∷ [])
  -- rules::convert::convert
  pub convert : EntryPoint convert.ended convert_code.name convert_code.code
      (λ κs (table, (input, (output, _))) conversion (_, (_, (output', _))).
      (conversion_of conversion ≡ (direct table.now input.now output.now).answer)
      ∷ (output'.now ≡ (direct table.now input.now output.now).output)
      ∷ [])
  -- typed::text::from_text
  pub from_text : EntryPoint from_text.ended from_text_code.name from_text_code.code
      (λ κs (text, (table, _)) typed (_, (table', _)). FromText text.now table.now (outcome_of typed) table'.now ∷ [])
  -- machine::compile::compile
  pub compile : EntryPoint compile.ended compile_code.name compile_code.code
      (λ κs (table, (words, _)) compiled (_, (words', _)).
      (outcome_of compiled ≡ (Compile.compile table.now words.now).answer) ∷ (words'.now ≡ (Compile.compile table.now words.now).words) ∷ [])
  -- witness::check::witness
  pub witness : EntryPoint witness.ended witness_code.name witness_code.code
      (λ κs (table, (words, (rule, _))) answer (_, (words', _)).
      ((a : Outcome (Option (List ℕ))) × Checked table.now words.now rule a words'.now × (outcome_of answer ≡ judged a)) ∷ [])
  -- words::sound_words::is_sound
  pub is_sound : EntryPoint is_sound.ended is_sound_code.name is_sound_code.code
      (λ κs (words, _) answer _. (answer ≡ sound words.now) ∷ [])
  -- session::kept::fresh
  pub fresh : EntryPoint fresh.ended fresh_code.name fresh_code.code
      (λ κs _ session _. (session_of session ≡ Session.fresh) ∷ [])
  -- session::call::feed
  pub feed : EntryPoint feed.ended feed_code.name feed_code.code
      (λ κs (words, (session, (piece, (output, _)))) answer (_, (session', (_, (output', _)))).
      Feeds words.now session.now piece.now output.now answer session'.now output'.now ∷ [])
  -- session::call::finish
  pub finish : EntryPoint finish.ended finish_code.name finish_code.code
      (λ κs (words, (session, (output, _))) answer (_, (session', (output', _))).
      Finishes words.now session.now output.now answer session'.now output'.now ∷ [])
  -- session::call::preview
  pub preview : EntryPoint preview.ended preview_code.name preview_code.code
      (λ κs (words, (session, (piece, _))) called _.
      Previews words.now session.now piece.now (written_of called) (left_of session.now called) ∷ [])
  -- session::call::feed_by_value
  pub feed_by_value : EntryPoint feed_by_value.ended feed_by_value_code.name feed_by_value_code.code
      (λ κs (words, (session, (piece, (output, _)))) called (_, (_, (_, (output', _)))).
      Feeds words.now session piece.now output.now (written_of called) (left_of session called) output'.now ∷ [])
  -- session::call::finish_by_value
  pub finish_by_value : EntryPoint finish_by_value.ended finish_by_value_code.name finish_by_value_code.code
      (λ κs (words, (session, (output, _))) called (_, (_, (output', _))).
      Finishes words.now session output.now (written_of called) (left_of session called) output'.now ∷ [])
  -- session::call::preview_by_value
  pub preview_by_value : EntryPoint preview_by_value.ended preview_by_value_code.name preview_by_value_code.code
      (λ κs (words, (session, (piece, _))) called _.
      Previews words.now session piece.now (written_of called) (left_of session called) ∷ [])
  -- session::call::feed_kept
  pub feed_kept : EntryPoint feed_kept.ended feed_kept_code.name feed_kept_code.code
      (λ κs (words, (kept, (uses, (piece, (output, _))))) went (_, (_, (uses', (_, (output', _))))).
      OnErr went (uses'.now ≡ uses.now)
      ∷ Feeds words.now (together kept uses.now) piece.now output.now (written_of went) (together (left_of kept went) uses'.now) output'.now
      ∷ [])
  -- session::call::finish_kept
  pub finish_kept : EntryPoint finish_kept.ended finish_kept_code.name finish_kept_code.code
      (λ κs (words, (kept, (uses, (output, _)))) went (_, (_, (uses', (output', _)))).
      OnErr went (uses'.now ≡ uses.now)
      ∷ Finishes words.now (together kept uses.now) output.now (written_of went) (together (left_of kept went) uses'.now) output'.now
      ∷ [])
  -- session::call::preview_kept
  pub preview_kept : EntryPoint preview_kept.ended preview_kept_code.name preview_kept_code.code
      (λ κs (words, (kept, (uses, (piece, (later, _))))) went (_, (_, (_, (_, (later', _))))).
      OnErr went (later'.now ≡ later.now)
      ∷ Previews words.now (together kept uses.now) piece.now (written_of went) (together (left_of kept went) later'.now)
      ∷ [])
  -- chain::call::feed
  pub chain_feed : EntryPoint chain_feed.ended chain_feed_code.name chain_feed_code.code
      (λ κs (words₁, (first, (words₂, (second, (piece, (middle, (output, _))))))) answer (_, (first', (_, (second', (_, (middle', (output', _))))))).
      Chain.Feeds words₁.now words₂.now first.now second.now piece.now middle.now output.now
      (Chain.outcome_of answer first'.now second'.now middle'.now output'.now)
      ∷ [])
  -- chain::call::finish
  pub chain_finish : EntryPoint chain_finish.ended chain_finish_code.name chain_finish_code.code
      (λ κs (words₁, (first, (words₂, (second, (middle, (output, _)))))) answer (_, (first', (_, (second', (middle', (output', _)))))).
      Chain.Finishes words₁.now words₂.now first.now second.now middle.now output.now
      (Chain.outcome_of answer first'.now second'.now middle'.now output'.now)
      ∷ [])
  -- chain::call::feed_by_value
  pub chain_feed_by_value : EntryPoint chain_feed_by_value.ended chain_feed_by_value_code.name chain_feed_by_value_code.code
      (λ κs (words₁, (first, (words₂, (second, (piece, (middle, (output, _))))))) called (_, (_, (_, (_, (_, (middle', (output', _))))))).
      Chain.Feeds words₁.now words₂.now first second piece.now middle.now output.now
      (Chain.outcome_of (Chain.written_of called) (Chain.first_of first called) (Chain.second_of second called) middle'.now output'.now)
      ∷ [])
  -- chain::call::finish_by_value
  pub chain_finish_by_value : EntryPoint chain_finish_by_value.ended chain_finish_by_value_code.name chain_finish_by_value_code.code
      (λ κs (words₁, (first, (words₂, (second, (middle, (output, _)))))) called (_, (_, (_, (_, (middle', (output', _)))))).
      Chain.Finishes words₁.now words₂.now first second middle.now output.now
      (Chain.outcome_of (Chain.written_of called) (Chain.first_of first called) (Chain.second_of second called) middle'.now output'.now)
      ∷ [])
  -- chain::call::feed_kept
  pub chain_feed_kept : EntryPoint chain_feed_kept.ended chain_feed_kept_code.name chain_feed_kept_code.code
      (λ κs (words₁, (first, (uses₁, (words₂, (second, (uses₂, (piece, (middle, (output, _))))))))) went (_, (_, (uses₁', (_, (_, (uses₂', (_, (middle', (output', _))))))))).
      OnErr went ((uses₁'.now ≡ uses₁.now) × (uses₂'.now ≡ uses₂.now))
      ∷ Chain.Feeds words₁.now words₂.now (together first uses₁.now) (together second uses₂.now) piece.now middle.now output.now
      (Chain.outcome_of (Chain.written_of went) (together (Chain.first_of first went) uses₁'.now) (together (Chain.second_of second went) uses₂'.now) middle'.now output'.now)
      ∷ [])
  -- chain::call::finish_kept
  pub chain_finish_kept : EntryPoint chain_finish_kept.ended chain_finish_kept_code.name chain_finish_kept_code.code
      (λ κs (words₁, (first, (uses₁, (words₂, (second, (uses₂, (middle, (output, _)))))))) went (_, (_, (uses₁', (_, (_, (uses₂', (middle', (output', _)))))))).
      OnErr went ((uses₁'.now ≡ uses₁.now) × (uses₂'.now ≡ uses₂.now))
      ∷ Chain.Finishes words₁.now words₂.now (together first uses₁.now) (together second uses₂.now) middle.now output.now
      (Chain.outcome_of (Chain.written_of went) (together (Chain.first_of first went) uses₁'.now) (together (Chain.second_of second went) uses₂'.now) middle'.now output'.now)
      ∷ [])
  -- station::two::convert_in_two
  pub convert_in_two : EntryPoint convert_in_two.ended convert_in_two_code.name convert_in_two_code.code
      (λ κs (table, (first, (second, (words, (output, _))))) progress (_, (_, (_, (words', (output', _))))).
      (words'.now ≡ (Compile.compile table.now words.now).words)
      ∷ ((turn_of progress, output'.now) ≡ in_two table.now first.now second.now words.now output.now)
      ∷ [])
  -- cobbletwill_check
  pub c_check : EntryPoint c_check.ended c_check_code.name c_check_code.code
      (λ κs (table, _) answer _. Face.Checks table.now answer ∷ [])
  -- cobbletwill_convert
  pub c_convert : EntryPoint c_convert.ended c_convert_code.name c_convert_code.code
      (λ κs (table, (input, (output, (place, (written, _))))) answer (_, (_, (output', (place', (written', _))))).
      Face.Converts table.now input.now output.now place.now written.now answer output'.now place'.now written'.now ∷ [])
  -- cobbletwill_from_text
  pub c_from_text : EntryPoint c_from_text.ended c_from_text_code.name c_from_text_code.code
      (λ κs (text, (table, (length, _))) answer (_, (table', (length', _))).
      TypedFace text.now table.now length.now answer table'.now length'.now ∷ [])
  -- cobbletwill_compile
  pub c_compile : EntryPoint c_compile.ended c_compile_code.name c_compile_code.code
      (λ κs (table, (words, _)) answer (_, (words', _)).
      Face.Compiles table.now words.now answer words'.now ∷ [])
  -- cobbletwill_witness
  pub c_witness : EntryPoint c_witness.ended c_witness_code.name c_witness_code.code
      (λ κs (table, (words, (rule, (input, _)))) answer (_, (words', (_, (input', _)))).
      Witnessed table.now words.now rule input.now answer words'.now input'.now ∷ [])
  -- cobbletwill_is_sound
  pub c_is_sound : EntryPoint c_is_sound.ended c_is_sound_code.name c_is_sound_code.code
      (λ κs (words, _) answer _. Face.TestsWords words.now answer ∷ [])
  -- cobbletwill_version
  pub c_version : EntryPoint c_version.ended c_version_code.name c_version_code.code
      (λ κs _ answer _. (answer ≡ 2816) ∷ [])
  -- cobbletwill_feed_parts
  pub c_feed : EntryPoint c_feed.ended c_feed_code.name c_feed_code.code
      (λ κs (words, (session, (uses, (piece, (output, (written, _)))))) answer (_, (session', (uses', (_, (output', (written', _)))))).
      Face.Feeds words.now session.now uses.now piece.now output.now written.now
      (left answer session'.now uses'.now output'.now written'.now)
      ∷ [])
  -- cobbletwill_finish_parts
  pub c_finish : EntryPoint c_finish.ended c_finish_code.name c_finish_code.code
      (λ κs (words, (session, (uses, (output, (written, _))))) answer (_, (session', (uses', (output', (written', _))))).
      Face.Finishes words.now session.now uses.now output.now written.now
      (left answer session'.now uses'.now output'.now written'.now)
      ∷ [])
  -- cobbletwill_preview_parts
  pub c_preview : EntryPoint c_preview.ended c_preview_code.name c_preview_code.code
      (λ κs (words, (session, (uses, (piece, (later, (counts, (written, _))))))) answer (_, (_, (_, (_, (later', (counts', (written', _))))))).
      Face.Previews words.now session.now uses.now piece.now later.now counts.now written.now
      (previewed answer later'.now counts'.now written'.now)
      ∷ [])
  -- cobbletwill_chain_feed_parts
  pub c_chain_feed : EntryPoint c_chain_feed.ended c_chain_feed_code.name c_chain_feed_code.code
      (λ κs (words₁, (first, (uses₁, (words₂, (second, (uses₂, (piece, (middle, (output, (written, (status₁, _))))))))))) answer
      (_, (first', (uses₁', (_, (second', (uses₂', (_, (middle', (output', (written', (status₁', _))))))))))).
      Face.ChainFeeds words₁.now first.now uses₁.now words₂.now second.now uses₂.now piece.now middle.now output.now written.now status₁.now
      (Chains.left answer first'.now uses₁'.now second'.now uses₂'.now middle'.now output'.now written'.now status₁'.now)
      ∷ [])
  -- cobbletwill_chain_finish_parts
  pub c_chain_finish : EntryPoint c_chain_finish.ended c_chain_finish_code.name c_chain_finish_code.code
      (λ κs (words₁, (first, (uses₁, (words₂, (second, (uses₂, (middle, (output, (written, (status₁, _)))))))))) answer
      (_, (first', (uses₁', (_, (second', (uses₂', (middle', (output', (written', (status₁', _)))))))))).
      Face.ChainFinishes words₁.now first.now uses₁.now words₂.now second.now uses₂.now middle.now output.now written.now status₁.now
      (Chains.left answer first'.now uses₁'.now second'.now uses₂'.now middle'.now output'.now written'.now status₁'.now)
      ∷ [])
