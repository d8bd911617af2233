-- What the code of a named step promises: the memory that it leaves and the step that its process comes to are those of
-- the rules, whatever it does not look at.
use Rattle.std.specs.Prelude.{ℕ, ◌+◌, ◌-◌, ◌≡◌, Bool, true, false, List, []}
use Rattle.tree.specs.Shape.{Shape}
use Rattle.steps.specs.declared.Operation.{Operation}
use Rattle.steps.specs.declared.Operation.TheVariants.{Take}
use Rattle.steps.specs.declared.Visit.{Visit}
use Rattle.steps.specs.declared.After.{After}
use Rattle.steps.specs.declared.Process.{Process}
use Rattle.steps.specs.declared.Status.{Status}
use Rattle.steps.specs.declared.Status.TheVariants.{Idle, Busy}
use Rattle.steps.specs.declared.Step.{Step}
use Rattle.steps.specs.declared.Step.TheVariants.{A, V3, C3N}
use Rattle.steps.specs.Rules.{of_child, same_totals, step, go}
use Rattle.steps.specs.Machine.{stepped}
use Rattle.tree.specs.Blocks.{block_at}
use Rattle.tree.specs.Memory.{memory_of, head_is, raise}

-- the operation that a busy process is inside of. An idle one is inside of none: no contract accepts it here
abbrev pub operation_in : Status → Operation
operation_in Idle = Take
operation_in (Busy o n) = o

-- the step that a process is at; an idle one is at none, and the next that it comes to is A
abbrev pub step_in : Status → Step
step_in Idle = A
step_in (Busy o n) = n

-- a process after a step of operation o that is no help, with step n next
abbrev pub moved : Process → Operation → Step → Process
moved q o n = record { status = Busy o n; begun = q.begun; steps = q.steps + 1; helps = q.helps }

-- process q has become r by such a step: it is inside of the same operation, with one own step more
abbrev pub Moves : Process → Process → Type 0
Moves q r = r ≡ moved q (operation_in q.status) (step_in r.status)

-- q becomes r by a step that looks at these heads alone and leaves heads'
abbrev pub NextByHeads : List ℕ → List ℕ → Process → Process → Type 0
NextByHeads heads heads' q r = Moves q r × ((s : Shape) (number k : ℕ) (o : Operation) (table : List ℕ)
    → step s number k o (memory_of table heads) (step_in q.status)
    ≡ go s number k o (memory_of table heads) (memory_of table heads') (step_in r.status))

-- q becomes r by a step that looks at these heads alone, leaves heads', and tells whether it was a help: r counts what
-- it tells
abbrev pub NextTelling : List ℕ → List ℕ → Process → Process → Type 0
NextTelling heads heads' q r = (s : Shape) (number k : ℕ) (table : List ℕ)
    → let z = step s number k (operation_in q.status) (memory_of table heads) (step_in q.status) in (r ≡ stepped q z) × (z.memory ≡ memory_of table heads')

-- q becomes r, in a tree of shape s, by a step that looks at this table alone and leaves table'; number is that of its
-- record
abbrev pub NextByTable : Shape → ℕ → List ℕ → List ℕ → Process → Process → Type 0
NextByTable s number table table' q r = Moves q r × ((k : ℕ) (o : Operation) (heads : List ℕ)
    → step s number k o (memory_of table heads) (step_in q.status)
    ≡ go s number k o (memory_of table heads) (memory_of table' heads) (step_in r.status))

-- The functions of the named steps. A name is given by what it is to say P of each step of that name: of R2,
-- (w : Visit) → P (R2 w). Where process q is at such a step, Next holds; at a step of another name, Same does.
abbrev pub AtName : ((Step → Type 0) → Type 0) → Process → Type 0 → Type 0 → Type 0
AtName Each q Next Same = Each (λ n. step_in q.status ≡ n → Next) × (Each (λ n. step_in q.status ≡ n → ⊥) → Same)

abbrev pub StepsByHeads : ((Step → Type 0) → Type 0) → List ℕ → List ℕ → Process → Process → Type 0
StepsByHeads Each heads heads' q r = AtName Each q (NextByHeads heads heads' q r) ((r ≡ q) × (heads' ≡ heads))

abbrev pub StepsTelling : ((Step → Type 0) → Type 0) → List ℕ → List ℕ → Process → Process → Type 0
StepsTelling Each heads heads' q r = AtName Each q (NextTelling heads heads' q r) ((r ≡ q) × (heads' ≡ heads))

abbrev pub StepsByTable : ((Step → Type 0) → Type 0) → Shape → ℕ → List ℕ → List ℕ → Process → Process → Type 0
StepsByTable Each s number table table' q r = AtName Each q (NextByTable s number table table' q r) ((r ≡ q) × (table' ≡ table))

-- Where process q is at V3, P holds of its registers; at another step, Same does.
abbrev pub AtV3 : Process → (After → ℕ → ℕ → Type 0) → Type 0 → Type 0
AtV3 q P Same =
    ((a : After) (w : Visit) (v h : ℕ) → step_in q.status ≡ V3 a w v h → P a v h)
    × (((a : After) (w : Visit) (v h : ℕ) → step_in q.status ≡ V3 a w v h → ⊥) → Same)

-- the head of its node is raised, and what is told is whether it moved; at another step none is
abbrev pub Raises : List ℕ → List ℕ → Process → Bool → Type 0
Raises heads heads' q raised = AtV3 q
    (λ _ v h. (heads' ≡ (raise (memory_of [] heads) v h).heads) × (raised ≡ head_is (memory_of [] heads) v h))
    ((heads' ≡ heads) × (raised ≡ false))

-- whether the advance that it is in is of a child; at another step it is in none
abbrev pub AdvancesChild : Process → Bool → Type 0
AdvancesChild q b = AtV3 q (λ a _ _. b ≡ of_child a) (b ≡ false)

-- C3N has three functions: one decides, and one an outcome gives the process. Where process q is at C3N, P holds of its
-- registers; at another step, Same does.
abbrev pub AtC3N : Process → (Visit → ℕ → ℕ → ℕ → ℕ → Type 0) → Type 0 → Type 0
AtC3N q P Same =
    ((w : Visit) (l r puts takes : ℕ) → step_in q.status ≡ C3N w l r puts takes → P w l r puts takes)
    × (((w : Visit) (l r puts takes : ℕ) → step_in q.status ≡ C3N w l r puts takes → ⊥) → Same)

-- whether its totals are those of the block before the head; at another step nothing is added
abbrev pub Decided : Shape → List ℕ → Process → Bool → Type 0
Decided s table q b = AtC3N q (λ w l r puts takes. b ≡ same_totals puts takes (block_at s table w.node (w.head - 1))) (b ≡ true)

-- it becomes z, with step n of its registers next; at another step it stays
abbrev pub GoesFromC3N : (Visit → ℕ → ℕ → ℕ → ℕ → Step) → Process → Process → Type 0
GoesFromC3N n q z = AtC3N q (λ w l r puts takes. z ≡ moved q (operation_in q.status) (n w l r puts takes)) (z ≡ q)
