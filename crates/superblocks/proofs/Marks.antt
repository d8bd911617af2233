-- The invariant of supers. It says where the superblock of a block stands or may still come to stand, whatever the
-- order of steps.
use Prim.Native.Nat.{ℕ, ◌≤◌, ◌<◌}
use native.Mathlib.Omega.{arith}
use mathlib.Core.Path.{◌≡◌}
use mathlib.Core.Logic.{◌⊎◌}
use Rattle.tree.specs.Shape.{Shape, processes}
use Rattle.tree.specs.Memory.{Memory, head_of, block}
use Rattle.tree.specs.Sides.{Side, onLeft, onRight, child_of, end_of}
use Rattle.tree.specs.Clauses.Invariant.{Node, Inner, Present}
use Rattle.steps.specs.declared.Operation.{Operation}
use Rattle.steps.specs.declared.Refresh.TheVariants.{First}
use Rattle.steps.specs.declared.Visit.{Visit}
use Rattle.steps.specs.declared.After.{After}
use Rattle.steps.specs.declared.After.TheVariants.{Right, Ends, Again, Up}
use Rattle.steps.specs.declared.Step.{Step}
use Rattle.steps.specs.declared.Step.TheVariants.{A, V1, V2, V3, R1, R2, R3, R4, R5, C1, C2, C3L, C3R, C3N, C4, Q}
use Rattle.steps.specs.declared.Status.{Status}
use Rattle.steps.specs.declared.Status.TheVariants.{Idle, Busy}
use Rattle.steps.specs.Machine.{Machine, process_of}
use Rattle.steps.proofs.Stages.{Hand, none, one, two, made, Stage, resting, adding, advancing, starting, building, answering, stage}

-- super of the block at place i of node v
abbrev pub super : Shape → Memory → ℕ → ℕ → ℕ
super s m v i = (block s m v i).superblock

-- ---- what a process has seen of the child on a side of the node that it visits
pub data Sight : Type 0 where
  unseen : Sight
  -- it looks at place c, its head when it was read
  looking : ℕ → Sight
  -- it helps: it advances place h of node v
  advances : ℕ → ℕ → Sight
  -- the head has passed what was there
  head_past : Sight
  -- it has read end e
  end_read : ℕ → Sight

-- in an advance of place h of node v: of the left child, of the right, or of the visited node, where the visit is over
abbrev pub help_sight : After → Side → ℕ → ℕ → Sight
help_sight Right onLeft v h = advances v h
help_sight Right onRight v h = unseen
help_sight Ends onLeft v h = head_past
help_sight Ends onRight v h = advances v h
help_sight Again d v h = unseen
help_sight Up d v h = unseen

-- of a step in a refresh that has no end of that child in hand; other steps go by their stage
abbrev pub own_sight : Step → Side → Sight
own_sight A d = unseen
own_sight (V1 a w v h) d = unseen
own_sight (V2 a w v h x) d = unseen
own_sight (V3 a w v h) d = unseen
own_sight (R1 q v) d = unseen
own_sight (R2 w) d = unseen
own_sight (R3 w c) onLeft = looking c
own_sight (R3 w c) onRight = unseen
own_sight (R4 w) onLeft = head_past
own_sight (R4 w) onRight = unseen
own_sight (R5 w c) onLeft = head_past
own_sight (R5 w c) onRight = looking c
own_sight (C1 w) d = head_past
own_sight (C2 w l) d = head_past
own_sight (C3L w l r) d = head_past
own_sight (C3R w l r puts takes) d = head_past
own_sight (C3N w l r puts takes) d = head_past
own_sight (C4 w n) d = head_past
own_sight Q d = unseen

-- with what is in hand, or x where no end of that child is
abbrev pub hand_sight : Hand → Side → Sight → Sight
hand_sight none d x = x
hand_sight (one l) onLeft x = end_read l
hand_sight (one l) onRight x = x
hand_sight (two l r y) onLeft x = end_read l
hand_sight (two l r y) onRight x = end_read r
hand_sight (made n) onLeft x = end_read n.left
hand_sight (made n) onRight x = end_read n.right

abbrev pub stage_sight : Stage → Side → Sight → Sight
stage_sight resting d x = unseen
stage_sight adding d x = unseen
stage_sight (advancing w a v h) d x = help_sight a d v h
stage_sight (starting v q) d x = unseen
stage_sight (building w y) d x = hand_sight y d x
stage_sight answering d x = unseen

abbrev pub sight : Step → Side → Sight
sight n d = stage_sight (stage n) d (own_sight n d)

-- the visit that a stage is in; the values of a stage outside of any stand for none, where nothing is seen
abbrev no_visit : Visit
no_visit = record { node = 0; head = 0; refresh = First }

abbrev pub visit_in : Stage → Visit
visit_in resting = no_visit
visit_in adding = no_visit
visit_in (advancing w a v h) = w
visit_in (starting v q) = no_visit
visit_in (building w x) = w
visit_in answering = no_visit

-- what was seen covers place i of the child on side d of node u
abbrev pub Covers : Memory → Side → ℕ → ℕ → Sight → Type 0
Covers m d u i unseen = Unit {0}
Covers m d u i (looking c) = (i ≤ c) × (c ≤ head_of m (child_of d u))
Covers m d u i (advances v h) = (i ≤ h) × (v ≡ child_of d u)
Covers m d u i head_past = i < head_of m (child_of d u)
Covers m d u i (end_read e) = i ≤ e

-- and does so as the head rises
pub covers_rises : (m n : Memory) (d : Side) (u i : ℕ) → head_of m (child_of d u) ≤ head_of n (child_of d u) → (x : Sight) → Covers m d u i x → Covers n d u i x
covers_rises m n d u i l unseen p = tt
covers_rises m n d u i l (looking c) p = (p.0, omega (arith, p.1))
covers_rises m n d u i l (advances v h) p = p
covers_rises m n d u i l head_past p = omega arith
covers_rises m n d u i l (end_read e) p = p

-- a process that visits node u with a head past z has seen place i of its child on side d, as far as it has looked
-- there. Helping is what makes this so: R3 and R5 leave the head past every block that was present
abbrev pub Seen : Memory → Side → ℕ → ℕ → ℕ → Status → Type 0
Seen m d u i z Idle = Unit {0}
Seen m d u i z (Busy o n) = (visit_in (stage n)).node ≡ u → z < (visit_in (stage n)).head → Covers m d u i (sight n d)

-- ---- the marks of a block

-- a process is at V2, about to set super of v's block i to z
pub data Asks (v i z : ℕ) : Status → Type 0 where
  asks : (o : Operation) (a : After) (w : Visit) → Asks v i z (Busy o (V2 a w v i z))

-- a process is at V3, about to raise v's head past block i
pub data Raises (v i : ℕ) : Status → Type 0 where
  raises : (o : Operation) (a : After) (w : Visit) → Raises v i (Busy o (V3 a w v i))

-- z is a mark of v's block i: its super, or while that is not set what a process is about to set it to
abbrev pub Mark : Shape → Memory → (ℕ → Status) → ℕ → ℕ → ℕ → Type 0
Mark s m at v i z = ((super s m v i ≡ z) × (1 ≤ z)) ⊎ ((super s m v i ≡ 0) × ((r : ℕ) × (r < processes s) × Asks v i z (at r)))

-- what a mark z of place i of the child on side d of node u says: u's blocks before z end before i, those after z do
-- not; nor will those that are being built
pub record Near (s : Shape) (m : Memory) (at : ℕ → Status) (d : Side) (u i z : ℕ) : Type 0 where
  pub first : 1 ≤ z
  pub last : z ≤ head_of m u
  pub before : (q : ℕ) → Present s m u q → q < z → end_of d (block s m u q) < i
  pub after : (q : ℕ) → Present s m u q → z < q → i ≤ end_of d (block s m u q)
  pub seen : (r : ℕ) → r < processes s → Seen m d u i z (at r)

-- ---- the invariant

-- below the root, super is set in the blocks below the head
abbrev pub SupersSet : Shape → Memory → Type 0
SupersSet s m = (v i : ℕ) → Node s v → 1 < v → 1 ≤ i → i < head_of m v → 1 ≤ super s m v i

pub record MarksHold (s : Shape) (m : Memory) (at : ℕ → Status) : Type 0 where
  pub set : SupersSet s m
  -- and in one that the head is about to be raised past
  pub raised : (r : ℕ) → r < processes s → (v i : ℕ) → 1 < v → Raises v i (at r) → 1 ≤ super s m v i
  pub near : (d : Side) (u : ℕ) → Inner s u → (i z : ℕ) → Mark s m at (child_of d u) i z → Near s m at d u i z

-- the processes of a machine
abbrev pub statuses : Machine → ℕ → Status
statuses m k = (process_of m k).status

abbrev pub SuperInvariant : Shape → Machine → Type 0
SuperInvariant s m = MarksHold s m.memory (statuses m)
