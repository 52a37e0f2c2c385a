-- Request [5] of the code: a preview and a feed of the same words, session and piece, each known by its contract alone.
use Rattle.std.specs.Prelude.{List, ◌≡◌, ℕ, ◌≤◌, length, Result}
use Rattle.rules.specs.declared.refusal.Refusal.{Refusal}
use Rattle.reckoning.specs.Preview.{enough}
use Rattle.session.specs.Keeping.{session_of}
use Rattle.session.specs.Promised.{answer_of, written_of, left_of, Feeds, Previews}
use Rattle.session.specs.declared.kept.Session.{Session}
use Rattle.session.specs.declared.call.Written.{Written}
use Rattle.session.specs.declared.call.Went.{Went}

-- "It answers the output count, status and later session of a feed made on a copy with enough output.": the feed answers what the preview
-- answered, refused or accepted, and leaves the session that it answered, or where both are refused the one found.
unfoldable pub PreviewTells : Type 0
PreviewTells =
    (w : List ℕ) (s : Session) (piece : List ℕ) (seen : Result (Went Session) Refusal) → Previews w s piece (written_of seen) (left_of s seen) →
    (buffer : List ℕ) (a : Result Written Refusal) (later : Session) (output : List ℕ) → Feeds w s piece buffer a later output →
    enough w (session_of s) piece ≤ length buffer →
    (answer_of (written_of seen) ≡ answer_of a) × (session_of (left_of s seen) ≡ session_of later)
