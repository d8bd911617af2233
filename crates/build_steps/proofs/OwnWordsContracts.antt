-- What is shown in `OwnWordsCode` is shown of the contracts themselves: of all that those of C3L, C3R and C3N ask, and
-- of what they promise. C3N decides by `adds_nothing`, and then one of two functions is called.
use Prim.Native.Nat.{ℕ, ◌*◌, ◌<◌}
use mathlib.Core.Path.{◌≡◌, refl}
use mathlib.Core.Bool.{true, false}
use mathlib.Core.List.{List}
use contract.Lifetimes.{Lfts}
use borrow.Fn.World.{ArgsD, ResD}
use Rattle.tree.specs.Shape.{Shape}
use Rattle.tree.specs.Clauses.Access.{HasPlace}
use Rattle.steps.specs.declared.Visit.{Visit}
use Rattle.steps.specs.declared.Step.{Step}
use Rattle.steps.specs.declared.Step.TheVariants.{C3L, C3R, C3N}
use Rattle.steps.specs.declared.Process.{Process}
use Rattle.steps.specs.Clauses.Ready.{Sums, Decides}
use Rattle.stepping.specs.Clauses.Next.{step_in, NextByTable, Decided}
use Rattle.build_steps.proofs.Decision.{decided_next}
use Rattle.build_steps.specs.contracts.step_c3l as c3l
use Rattle.build_steps.proofs.step_c3l.Reads as c3l_reads
use Rattle.build_steps.specs.contracts.step_c3r as c3r
use Rattle.build_steps.proofs.step_c3r.Reads as c3r_reads
use Rattle.build_steps.specs.contracts.adds_nothing as decision
use Rattle.build_steps.proofs.adds_nothing.Reads as decision_reads
use Rattle.build_steps.specs.contracts.step_c3n_up as up
use Rattle.build_steps.proofs.step_c3n_up.Reads as up_reads
use Rattle.build_steps.specs.contracts.step_c3n_on as on
use Rattle.build_steps.proofs.step_c3n_on.Reads as on_reads

-- the steps of a name
abbrev of_c3_l : (Step → Type 0) → Type 0
of_c3_l P = (w : Visit) (l r : ℕ) → P (C3L w l r)

abbrev of_c3_r : (Step → Type 0) → Type 0
of_c3_r P = (w : Visit) (l r puts takes : ℕ) → P (C3R w l r puts takes)

abbrev of_c3_n : (Step → Type 0) → Type 0
of_c3_n P = (w : Visit) (l r puts takes : ℕ) → P (C3N w l r puts takes)

-- ---- asked: of the process, and of the tree and its table at the step of the name
pub asked_c3l : (κs : Lfts 2) (a : ArgsD c3l.signature κs) → let q = a.1.1.0 in
    c3l_reads.Pre κs a
    ≡ ((q.steps < 65536) × ((w : Visit) (l r : ℕ) → step_in q.status ≡ C3L w l r → HasPlace a.1.0.now a.0.now (2 * w.node) l))
asked_c3l κs a = refl

pub asked_c3r : (κs : Lfts 2) (a : ArgsD c3r.signature κs) → let q = a.1.1.0 in
    c3r_reads.Pre κs a
    ≡ ((q.steps < 65536)
    × ((w : Visit) (l r puts takes : ℕ) → step_in q.status ≡ C3R w l r puts takes → Sums a.1.0.now a.0.now w r puts takes))
asked_c3r κs a = refl

-- what C3N needs of the table
abbrev NeededByC3N : Shape → List ℕ → Process → Type 0
NeededByC3N s table q = (w : Visit) (l r puts takes : ℕ) → step_in q.status ≡ C3N w l r puts takes → Decides s table w puts takes

pub asked_decision : (κs : Lfts 2) (a : ArgsD decision.signature κs) → decision_reads.Pre κs a ≡ NeededByC3N a.1.0.now a.0.now a.1.1.0
asked_decision κs a = refl

pub asked_up : (κs : Lfts 0) (a : ArgsD up.signature κs) → up_reads.Pre κs a ≡ (a.0.steps < 65536)
asked_up κs a = refl

pub asked_on : (κs : Lfts 2) (a : ArgsD on.signature κs) → on_reads.Pre κs a ≡ ((a.1.1.0.steps < 65536) × NeededByC3N a.1.0.now a.0.now a.1.1.0)
asked_on κs a = refl

-- ---- promised: of the process z that is left, by the rules
pub promised_c3l : (κs : Lfts 2) (a : ArgsD c3l.signature κs) (z : ResD c3l.signature κs) (x : _) → c3l_reads.Post κs a z x → (number : ℕ)
    → of_c3_l (λ n. step_in a.1.1.0.status ≡ n → NextByTable a.1.0.now number a.0.now a.0.now a.1.1.0 z)
promised_c3l κs a z x p number = (p number).0

pub promised_c3r : (κs : Lfts 2) (a : ArgsD c3r.signature κs) (z : ResD c3r.signature κs) (x : _) → c3r_reads.Post κs a z x → (number : ℕ)
    → of_c3_r (λ n. step_in a.1.1.0.status ≡ n → NextByTable a.1.0.now number a.0.now a.0.now a.1.1.0 z)
promised_c3r κs a z x p number = (p number).0

pub promised_decision : (κs : Lfts 2) (a : ArgsD decision.signature κs) (b : ResD decision.signature κs) (x : _) → decision_reads.Post κs a b x
    → Decided a.1.0.now a.0.now a.1.1.0 b
promised_decision κs a b x p = p

pub promised_up : (κs : Lfts 0) (a : ArgsD up.signature κs) (z : ResD up.signature κs) (x : _) → up_reads.Post κs a z x → (s : Shape) (number : ℕ) (table : List ℕ) → Decided s table a.0 true
    → of_c3_n (λ n. step_in a.0.status ≡ n → NextByTable s number table table a.0 z)
promised_up κs a z x p s number table d w l r puts takes e = decided_next s number table a.0 z w l r puts takes e true (d.0 w l r puts takes e) (p.0 w l r puts takes e)

pub promised_on : (κs : Lfts 2) (a : ArgsD on.signature κs) (z : ResD on.signature κs) (x : _) → on_reads.Post κs a z x → (number : ℕ) → Decided a.1.0.now a.0.now a.1.1.0 false
    → of_c3_n (λ n. step_in a.1.1.0.status ≡ n → NextByTable a.1.0.now number a.0.now a.0.now a.1.1.0 z)
promised_on κs a z x p number d w l r puts takes e = decided_next a.1.0.now number a.0.now a.1.1.0 z w l r puts takes e false (d.0 w l r puts takes e) (p.0 w l r puts takes e)
