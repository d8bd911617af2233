-- A step stays inside its operation, and Q alone ends it, changes no memory and is no help.
use Prim.Native.Nat.{ℕ}
use mathlib.Core.Path.{◌≡◌, refl, ap, sym, ◌∙◌}
use mathlib.Core.Logic.{◌⊎◌, inl, inr}
use mathlib.Core.Bool.{true, false, true≢false, false≢true}
use Rattle.tree.specs.Shape.{Shape}
use Rattle.tree.specs.Memory.{Memory}
use Rattle.steps.specs.declared.Operation.{Operation}
use Rattle.steps.specs.declared.Step.{Step}
use Rattle.steps.specs.declared.Step.TheVariants.{A, V1, V2, V3, R1, R2, R3, R4, R5, C1, C2, C3L, C3R, C3N, C4, Q}
use Rattle.steps.specs.declared.Status.TheVariants.{Idle, Busy}
use Rattle.steps.specs.Rules.{go_telling, go, step}
use Rattle.steps.specs.Machine.{is_idle, is_q}

-- a step that is not Q leads to a step of the same operation
abbrev Goes : Step → Type 0
Goes n = (is_q n ≡ false) × ((s : Shape) (number k : ℕ) (o : Operation) (m : Memory) → (n' : Step) × ((step s number k o m n).next ≡ Busy o n'))

goes : (n : Step) → (n ≡ Q) ⊎ Goes n
unfolding step go_telling go is_q
goes A = inr (refl, λ s number k o m. (_, refl))
goes (V1 a w v h) = inr (refl, λ s number k o m. (_, refl))
goes (V2 a w v h x) = inr (refl, λ s number k o m. (_, refl))
goes (V3 a w v h) = inr (refl, λ s number k o m. (_, refl))
goes (R1 q v) = inr (refl, λ s number k o m. (_, refl))
goes (R2 w) = inr (refl, λ s number k o m. (_, refl))
goes (R3 w c) = inr (refl, λ s number k o m. (_, refl))
goes (R4 w) = inr (refl, λ s number k o m. (_, refl))
goes (R5 w c) = inr (refl, λ s number k o m. (_, refl))
goes (C1 w) = inr (refl, λ s number k o m. (_, refl))
goes (C2 w l) = inr (refl, λ s number k o m. (_, refl))
goes (C3L w l r) = inr (refl, λ s number k o m. (_, refl))
goes (C3R w l r puts takes) = inr (refl, λ s number k o m. (_, refl))
goes (C3N w l r puts takes) = inr (refl, λ s number k o m. (_, refl))
goes (C4 w n) = inr (refl, λ s number k o m. (_, refl))
goes Q = inl refl

-- the step is Q
pub is_q_lem : (n : Step) → is_q n ≡ true → n ≡ Q
is_q_lem n e = on (goes n)
  where
    on : (n ≡ Q) ⊎ Goes n → n ≡ Q
    on (inl q) = q
    on (inr g) = absurd (false≢true (sym g.0 ∙ e))

module _ (s : Shape) (number k : ℕ) (o : Operation) (m : Memory) where
  pub q_memory : (step s number k o m Q).memory ≡ m
  unfolding step
  q_memory = refl

  q_idle : (step s number k o m Q).next ≡ Idle
  unfolding step
  q_idle = refl

  pub q_next : (n : Step) → is_q n ≡ true → (step s number k o m n).next ≡ Idle
  q_next n q = ap (λ (x : Step). (step s number k o m x).next) (is_q_lem n q) ∙ q_idle

  -- Q is no help
  pub q_helps_none : (n : Step) → is_q n ≡ true → (step s number k o m n).helped ≡ false
  unfolding step
  q_helps_none n q = ap (λ (x : Step). (step s number k o m x).helped) (is_q_lem n q)

  -- after a step that leaves the process busy it is inside the same operation, and the step was not Q
  pub next_busy : (n : Step) (o' : Operation) (n' : Step) → (step s number k o m n).next ≡ Busy o' n' → (is_q n ≡ false) × (o ≡ o')
  unfolding is_idle
  next_busy n o' n' e = on (goes n)
    where
      on : (n ≡ Q) ⊎ Goes n → (is_q n ≡ false) × (o ≡ o')
      on (inl q) = absurd (false≢true (sym (ap is_idle e) ∙ ap (λ (x : Step). is_idle (step s number k o m x).next) q ∙ ap is_idle q_idle))
      on (inr g) = let f = (g.1 s number k o m).1 in (g.0, cc)

  -- any other step leaves the process busy
  pub still_busy : (n : Step) → is_q n ≡ false → is_idle (step s number k o m n).next ≡ false
  unfolding is_idle is_q
  still_busy n e = on (goes n)
    where
      on : (n ≡ Q) ⊎ Goes n → is_idle (step s number k o m n).next ≡ false
      on (inl q) = absurd (true≢false (sym (ap is_q q) ∙ e))
      on (inr g) = ap is_idle (g.1 s number k o m).1
