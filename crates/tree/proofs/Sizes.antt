-- The parts of a tree's nodes take just the words needed.
use Prim.Native.Nat.{ℕ, zero, suc, ◌+◌, ◌*◌, ◌-◌, ◌^◌, ◌≤◌, ◌<◌}
use native.Mathlib.Omega.{arith}
use native.Mathlib.Nat.{not-suc-le-zero, le_refl, add-suc, add-zero}
use mathlib.Core.Path.{◌≡◌, refl, ap, sym, ◌∙◌}
use lib.Pow.{pow-add, pow_pos}
use Rattle.tree.specs.Shape.{Shape, processes, height_of, last_place}
use Rattle.tree.specs.Layout.{part_start, part_words, block_words, words_needed}
use Rattle.tree.proofs.Parts.{start_after}
use Rattle.tree.proofs.Heights.{height_level}

-- a node's words, past node 0
pub words_of : (s : Shape) (v : ℕ) → 0 < v → part_words s v ≡ block_words * (last_place s v + 1)
unfolding part_words
words_of s zero h = absurd (not-suc-le-zero h)
words_of s (suc v) h = refl

module _ (s : Shape) where
  -- the words of each node of level d
  level_words : ℕ → ℕ
  level_words d = block_words * (s.most * 2 ^ (s.height - d) + 1)

  words_level : (d j : ℕ) → d ≤ s.height → j < 2 ^ d → part_words s (2 ^ d + j) ≡ level_words d
  unfolding level_words last_place height_of
  words_level d j h l = words_of s (2 ^ d + j) (omega (arith, pow_pos d)) ∙ rw (height_level s.height d j h l)

  -- the first j nodes of level d take j times as many
  level_part : (d j : ℕ) → d ≤ s.height → j ≤ 2 ^ d → part_start s (2 ^ d + j) ≡ part_start s (2 ^ d) + j * level_words d
  unfolding part_start
  level_part d zero h l = rw add-zero (omega arith)
  level_part d (suc j) h l = rw add-suc (omega (arith, level_part d j h (omega arith), words_level d j h l))

  -- the words of the levels above level d
  level_start : (d : ℕ) → d ≤ suc s.height → part_start s (2 ^ d) ≡ block_words * (d * 2 ^ s.height * s.most + (2 ^ d - 1))
  unfolding part_start part_words level_words
  level_start zero h = omega arith
  level_start (suc d) h =
      let e : 2 ^ suc d ≡ 2 ^ d + 2 ^ d = omega arith in
      let k : d ≤ s.height = omega arith in
      let p : 2 ^ d * 2 ^ (s.height - d) ≡ 2 ^ s.height = sym (pow-add 2 d (s.height - d)) ∙ ap (λ (n : ℕ). 2 ^ n) (omega arith) in
      let q : s.most * (2 ^ d * 2 ^ (s.height - d)) ≡ s.most * 2 ^ s.height = ap (λ (n : ℕ). s.most * n) p in
      rw e (level_part d (2 ^ d) k (le_refl _) ∙ omega (arith, level_start d (omega arith), pow_pos d))

-- the last node's part ends where they do
pub words_needed_lem : (s : Shape) → part_start s (2 * processes s) ≡ words_needed s
unfolding words_needed processes
words_needed_lem s = ap (part_start s) (omega arith) ∙ level_start s (suc s.height) (le_refl _) ∙ omega arith

-- each node's part lies within the words needed
pub part_within : (s : Shape) (v : ℕ) → v < 2 * processes s → part_start s v + part_words s v ≤ words_needed s
part_within s v h = omega (arith, start_after s v (2 * processes s) h, words_needed_lem s)
