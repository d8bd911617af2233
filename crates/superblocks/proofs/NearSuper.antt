-- From the invariant of supers: a superblock stands at super or one place later, since the blocks before super end
-- before the block, and those after super do not.
use Prim.Native.Nat.{ℕ, ◌+◌, ◌-◌, ◌≤◌, ◌<◌}
use native.Mathlib.Omega.{arith}
use native.Mathlib.Decide.{ℕ_discrete, dec_lt}
use mathlib.Core.Path.{◌≡◌, refl}
use mathlib.Core.Logic.{inl, inr}
use mathlib.Core.Bool.{true, ◌||◌}
use lib.Dec.{eqb}
use borrow.Author.Tests.{eq-eqb, ne_eqb, le-leb}
use Rattle.tree.specs.Shape.{Shape}
use Rattle.tree.specs.Sides.{Side, child_of, end_of}
use Rattle.tree.specs.Memory.{Memory, block}
use Rattle.tree.specs.Clauses.Invariant.{Inner, Present, Written, Sound}
use Rattle.tree.proofs.Nodes.{child_node, child_below, inner_node}
use Rattle.tree.proofs.Sound.{end_below, below_head, present_low}
use Rattle.steps.specs.declared.Status.{Status}
use Rattle.superblocks.specs.Supers.{near_super}
use Rattle.superblocks.proofs.Marks.{super, Near, MarksHold}

near_within : (q z : ℕ) → 1 ≤ z → z ≤ q → q ≤ z + 1 → near_super q z ≡ true
unfolding near_super
near_within q z set low high = rw (le-leb 1 z set) (on (ℕ_discrete q z))
  where
    on : Dec (q ≡ z) → (eqb q z || eqb q (z + 1)) ≡ true
    on (yes e) = rw (eq-eqb q z e)
    on (no e) = rw (ne_eqb q z e, eq-eqb q (z + 1) (omega arith))

-- ---- block q of node u is the first that does not end before place i of the child on side d: it is not before super,
-- and the one before it is not after super
module _ (s : Shape) (m : Memory) (at : ℕ → Status) (sound : Sound s m) (sup : MarksHold s m at) (d : Side) (u : ℕ) (iu : Inner s u) (i q : ℕ) (here : Present s m u q)
    (before : end_of d (block s m u (q - 1)) < i) (within : i ≤ end_of d (block s m u q))
  where
    abbrev z : ℕ
    z = super s m (child_of d u) i

    set : 1 ≤ z
    set = sup.set (child_of d u) i (child_node s d u iu) (child_below s d u iu) (omega arith) (omega (arith, end_below sound d u iu q (inr here)))

    near : Near s m at d u i z
    near = sup.near d u iu i z (inl (refl, set))

    not_before : z ≤ q
    not_before = on (dec_lt q z)
      where
        on : Dec (q < z) → z ≤ q
        on (yes l) = absurd (omega (arith, near.before q here l))
        on (no l) = omega arith

    not_after : q ≤ z + 1
    not_after = on (dec_lt (z + 1) q)
      where
        late : z + 1 < q → Written s m u (q - 1) → q ≤ z + 1
        late l (inl e) = omega arith
        late l (inr f) = absurd (omega (arith, near.after (q - 1) f (omega arith)))

        on : Dec (z + 1 < q) → q ≤ z + 1
        on (yes l) =
            let c = sound.node u (inner_node s u iu) in
            late l (below_head c (q - 1) (omega (arith, present_low c q here)))
        on (no l) = omega arith

    pub superblock_near : near_super q (super s m (child_of d u) i) ≡ true
    superblock_near = near_within q z set not_before not_after
