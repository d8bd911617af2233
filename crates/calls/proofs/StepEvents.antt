-- The event of a step record: a step of the operation, which is a help or not, and finishes it if the step is Q.
use Rattle.std.specs.Prelude.{if◌then◌else◌}
use Prim.Native.Nat.{◌+◌}
use native.Mathlib.Omega.{arith}
use mathlib.Core.Path.{◌≡◌, refl, ap, ◌∙◌}
use mathlib.Core.Bool.{Bool, true, false, ◌&&◌, ◌||◌, and-false, or-false as or_none}
use mathlib.Core.List.{List, [], ◌∷◌, ◌++◌}
use Rattle.tree.specs.Order.{OpId}
use Rattle.tree.specs.Standing.{same}
use Rattle.tree.proofs.Names.{same_refl}
use Rattle.calls.specs.History.{Event, moves, finishes, is_opening, is_own_step, is_own_help, is_finish, is_opened, is_finished, finished_before, own_steps, own_helps}
use Rattle.calls.specs.Demand3.{finishing}
use Rattle.calls.proofs.Histories.{is_opened-snoc, is_finished-snoc, own_steps-snoc, own_helps-snoc, finishing_append, finished_before-snoc}
use Rattle.calls.proofs.OwnCounts.{counts_of}

abbrev pub step_event : Bool → OpId → Bool → Event
step_event q y helped = if q then finishes y else moves y helped

module _ (q : Bool) (y : OpId) (helped : Bool) (h : List Event) where
  abbrev h' : List Event
  h' = h ++ (step_event q y helped ∷ [])

  pub opened_kept : (x : OpId) → is_opened x h' ≡ is_opened x h
  unfolding is_opening
  opened_kept x = is_opened-snoc x h (step_event q y helped) ∙ on q
    where
      on : (q : Bool) → is_opened x h || is_opening x (step_event q y helped) ≡ is_opened x h
      on true = or_none (is_opened x h)
      on false = or_none (is_opened x h)

  steps_more : (x : OpId) → own_steps x h' ≡ own_steps x h + (if same x y then 1 else 0)
  unfolding is_own_step
  steps_more x = own_steps-snoc x h (step_event q y helped) ∙ ap (λ (b : Bool). own_steps x h + (if b then 1 else 0)) (on q)
    where
      on : (q : Bool) → is_own_step x (step_event q y helped) ≡ same x y
      on true = refl
      on false = refl

  -- Q is no help
  module _ (quiet : q ≡ true → helped ≡ false) where
    helps_more : (x : OpId) → own_helps x h' ≡ own_helps x h + (if helped && same x y then 1 else 0)
    unfolding is_own_help
    helps_more x = own_helps-snoc x h (step_event q y helped) ∙ ap (λ (b : Bool). own_helps x h + (if b then 1 else 0)) (on q quiet)
      where
        on : (q : Bool) → (q ≡ true → helped ≡ false) → is_own_help x (step_event q y helped) ≡ helped && same x y
        on true f = rw (f refl)
        on false f = refl

    -- the counts of the operation, and those of another
    pub counts_own : counts_of y h' ≡ record { steps = own_steps y h + 1; helps = if helped then own_helps y h + 1 else own_helps y h }
    counts_own =
        let steps : own_steps y h' ≡ own_steps y h + 1 = steps_more y ∙ rw (same_refl y) in
        let helps : own_helps y h' ≡ (if helped then own_helps y h + 1 else own_helps y h) = helps_more y ∙ rw (same_refl y) (on helped) in
        λ i. record { steps = steps i; helps = helps i }
      where
        on : (b : Bool) → own_helps y h + (if b && true then 1 else 0) ≡ (if b then own_helps y h + 1 else own_helps y h)
        on true = refl
        on false = omega arith

    pub counts_other : (x : OpId) → same x y ≡ false → counts_of x h' ≡ counts_of x h
    counts_other x e =
        let steps : own_steps x h' ≡ own_steps x h = steps_more x ∙ rw e (omega arith) in
        let helps : own_helps x h' ≡ own_helps x h = helps_more x ∙ rw (e, and-false helped) (omega arith) in
        λ i. record { steps = steps i; helps = helps i }

  pub finished_more : (x : OpId) → is_finished x h' ≡ is_finished x h || (q && same x y)
  unfolding is_finish
  finished_more x = is_finished-snoc x h (step_event q y helped) ∙ ap (λ (b : Bool). is_finished x h || b) (on q)
    where
      on : (q : Bool) → is_finish x (step_event q y helped) ≡ q && same x y
      on true = refl
      on false = refl

  pub before_kept : (x z : OpId) → finished_before x z h' ≡ finished_before x z h
  unfolding is_opening
  before_kept x z = finished_before-snoc x z h (step_event q y helped) ∙ on q
    where
      on : (q : Bool) → finished_before x z h || is_finished x h && is_opening z (step_event q y helped) ≡ finished_before x z h
      on true = rw (and-false (is_finished x h)) (or_none (finished_before x z h))
      on false = rw (and-false (is_finished x h)) (or_none (finished_before x z h))

  pub finishing_more : finishing h' ≡ finishing h ++ (if q then y ∷ [] else [])
  unfolding finishing
  finishing_more = finishing_append h (step_event q y helped ∷ []) ∙ ap (λ (l : List OpId). finishing h ++ l) (on q)
    where
      on : (q : Bool) → finishing (step_event q y helped ∷ []) ≡ (if q then y ∷ [] else [])
      on true = refl
      on false = refl
