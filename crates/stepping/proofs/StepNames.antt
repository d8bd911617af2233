-- Which step a process is at, by the number of its name.
use Prim.Native.Nat.{ℕ}
use mathlib.Core.Path.{◌≡◌, refl, sym, subst}
use mathlib.Core.Bool.{false, not}
use lib.Dec.{T, eqb}
use denote.Enum.Declared as declared
use Rattle.steps.specs.declared.Visit.{Visit}
use Rattle.steps.specs.declared.After.{After}
use Rattle.steps.specs.declared.Step.{Step}
use Rattle.steps.specs.declared.Step.TheVariants.{V3, C3N}
use Rattle.steps.specs.declared.Status.{Status}
use Rattle.steps.specs.declared.Status.TheVariants.{Idle, Busy}
use Rattle.steps.specs.Machine.{is_idle}
use Rattle.stepping.specs.Clauses.Next.{step_in}
use Rattle.steps.specs.contracts.Step as steps

-- the number of a step's name, in the order of the declaration
abbrev pub tag : Step → ℕ
tag = declared.tag_of steps.the_type

-- two steps C3N that are equal have equal registers
pub same_registers : {w w' : Visit} {l l' r r' puts puts' takes takes' : ℕ} → C3N w l r puts takes ≡ C3N w' l' r' puts' takes'
    → (w ≡ w') × (l ≡ l') × (r ≡ r') × (puts ≡ puts') × (takes ≡ takes')
same_registers e = (cc, cc, cc, cc, cc)

-- so have two steps V3
pub same_advance : {a a' : After} {w w' : Visit} {v v' h h' : ℕ} → V3 a w v h ≡ V3 a' w' v' h' → (a ≡ a') × (v ≡ v') × (h ≡ h')
same_advance e = (cc, cc, cc)

-- a process at a step other than A is busy
pub busy : (x : Status) {n : Step} → step_in x ≡ n → T (not (eqb (tag n) 0)) → is_idle x ≡ false
unfolding is_idle
busy Idle e d = absurd (subst (λ z. T (not (eqb (tag z) 0))) (sym e) d)
busy (Busy o y) e d = refl
