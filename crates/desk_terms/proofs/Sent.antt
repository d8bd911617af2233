-- The bytes of the first terms, and those of one term more.
use Prim.Native.Nat.{ℕ, ◌+◌, ◌*◌, ◌≤◌, ◌<◌}
use native.Mathlib.Omega.{arith}
use native.Mathlib.Numerals.{add-one}
use mathlib.Core.Path.{◌≡◌, ◌∙◌}
use mathlib.Core.List.{List, [], ◌∷◌, ◌++◌, flat_map, append-nil}
use lib.ListN.{length, get_or, take, drop}
use lib.Seq.{sets, sets-eq, take-suc, take-length}
use Rattle.base.specs.Clauses.Stored.{Stored}
use Rattle.base.proofs.Gather.{flat_map-append}
use Rattle.base.proofs.Stored.{stored_none, stored_then}
use Rattle.encoding.specs.Bytes.{bytes_of}
use Rattle.encoding.proofs.Lengths.{bytes_length}
use Rattle.desk_rules.specs.Entries.{term_size, term_bytes}

-- the bytes of the first i terms are stored
abbrev pub SentFirst : List ℕ → List ℕ → List ℕ → ℕ → Type 0
SentFirst terms before after i = Stored before 0 (term_bytes (take i terms)) after (4 * i)

module _ (terms before : List ℕ) where
  pub sent_none : SentFirst terms before before 0
  unfolding term_bytes flat_map
  sent_none = stored_none before 0

  pub sent_more : {middle after : List ℕ} (i : ℕ) → i < length terms → SentFirst terms before middle i
      → after ≡ sets middle (4 * i) (bytes_of 4 (get_or terms i 0)) → SentFirst terms before after (i + 1)
  unfolding term_bytes term_size flat_map
  sent_more i h so_far stored =
      let word : List ℕ = bytes_of 4 (get_or terms i 0) in
      rw (add-one i, take-suc terms i 0 h, flat_map-append (bytes_of 4) (take i terms) (get_or terms i 0 ∷ []), append-nil word)
      (stored_then so_far (record { end = omega (arith, bytes_length 4 (get_or terms i 0)); bytes = stored }))

  pub sent_all : {after : List ℕ} → term_size * length terms ≤ length before → SentFirst terms before after (length terms)
      → after ≡ term_bytes terms ++ drop (term_size * length terms) before
  unfolding term_size
  sent_all fits so_far =
      let whole : take (length terms) terms ≡ terms = take-length terms in
      let e : 0 + length (term_bytes terms) ≡ 4 * length terms = omega (arith, rw whole at so_far.end) in
      so_far.bytes ∙ rw whole (sets-eq (term_bytes terms) before 0 (omega arith) ∙ rw e)
