-- What the words of a record say that is no step.
use Rattle.std.proofs.lemmas.Option.{none-some, same_Some}
use Prim.Native.Nat.{ℕ, ◌+◌, ◌*◌, ◌-◌, ◌≤◌, ◌<◌}
use native.Mathlib.Omega.{arith}
use mathlib.Core.Path.{◌≡◌, refl, ap, sym, ◌∙◌}
use mathlib.Core.Bool.{Bool, true, false, ◌||◌}
use mathlib.Core.Logic.{◌≢◌}
use lib.Dec.{leb}
use borrow.Author.Tests.{leb-true, leb-false, ne_eqb}
use Rattle.std.specs.Prelude.{Option, None, Some, if◌then◌else◌}
use Rattle.record.specs.declared.StepRecord.{StepRecord}
use Rattle.record.specs.StepRecords.{is_begin_put, ill_formed}
use Rattle.steps.specs.declared.Operation.{Operation}
use Rattle.steps.specs.declared.Operation.TheVariants.{Put, Take}
use Rattle.calls.specs.Run.{operation_of}
use Rattle.decode.specs.declared.Begin.{Begin}
use Rattle.decode.specs.Clauses.Begins.{first_word, begin_of}
use Rattle.decode.proofs.StepWords.{Formed, formed}

-- a begin of process k of a kind, with a value
abbrev begin_record : ℕ → ℕ → ℕ → StepRecord
begin_record k c v = record { process = k; kind = c; zeros = 0; value = v }

-- process k opens operation o
abbrev pub opens : ℕ → Operation → Option Begin
opens k o = Some (record { process = k; operation = o })

-- a record that cannot be well-formed is ill-formed
ill : (p : ℕ) (r : StepRecord) → (Formed p r → ⊥) → ill_formed p r ≡ true
ill p r not = on (ill_formed p r) refl
  where
    on : (b : Bool) → ill_formed p r ≡ b → ill_formed p r ≡ true
    on true e = e
    on false e = absurd (not (formed p r e))

-- a kind 0 with a value is
pub step_valued : (p : ℕ) (r : StepRecord) → first_word r < 256 → r.value ≢ 0 → ill_formed p r ≡ true
unfolding is_begin_put
step_valued p r small some = ill p r (λ f. let c : r.kind ≢ 1 = λ e. omega arith in some (f.bare (ne_eqb _ _ c)))

-- what a begin says is so
pub none_said : (p : ℕ) (r : StepRecord) → None ≡ begin_of p r → ill_formed p r ≡ true
none_said p r = on (ill_formed p r)
  where
    on : (b : Bool) → None ≡ (if b then None else opens r.process (operation_of r)) → b ≡ true
    on true e = refl
    on false e = absurd (none-some _ e)

pub some_said : (p : ℕ) (r : StepRecord) (k : ℕ) (o : Operation) → opens k o ≡ begin_of p r → (ill_formed p r ≡ false) × (k ≡ r.process) × (o ≡ operation_of r)
some_said p r k o = on (ill_formed p r)
  where
    on : (b : Bool) → opens k o ≡ (if b then None else opens r.process (operation_of r)) → (b ≡ false) × (k ≡ r.process) × (o ≡ operation_of r)
    on true e = absurd (none-some _ (sym e))
    on false e = let same = same_Some _ _ e in (refl, ap (λ (b : Begin). b.process) same, ap (λ (b : Begin). b.operation) same)

-- an ill-formed record is no begin
ill_begin : (p : ℕ) (r : StepRecord) → (Formed p r → ⊥) → None ≡ begin_of p r
ill_begin p r not = rw (ill p r not)

-- a begin whose kind is known: only the process is left to test
by_process : (b : Bool) (x y : Option Begin) → (if b then x else y) ≡ (if b || false || false || false then x else y)
by_process true x y = refl
by_process false x y = refl

of_put : (p k v : ℕ) → (if leb p k then None else opens k (Put v)) ≡ begin_of p (begin_record k 1 v)
unfolding ill_formed is_begin_put operation_of
of_put p k v = by_process (leb p k) _ _

of_take : (p k : ℕ) → (if leb p k then None else opens k Take) ≡ begin_of p (begin_record k 2 0)
unfolding ill_formed is_begin_put operation_of
of_take p k = by_process (leb p k) _ _

module _ (p : ℕ) (r : StepRecord) (byte : r.process < 256) (kind : r.kind < 256) {first value : ℕ} (word : first ≡ first_word r) (is : value ≡ r.value) where
  -- a kind 0, with a process that is not below p
  pub begin_none : p ≤ first → first < 256 → None ≡ begin_of p r
  begin_none low small = ill_begin p r (λ f. omega (arith, f.low, f.blank, f.kind))

  -- a put
  pub begin_put_lem : 256 ≤ first → first < 512 → (if leb p (first - 256) then None else opens (first - 256) (Put value)) ≡ begin_of p r
  begin_put_lem low high =
      let k : first - 256 ≡ r.process = omega arith in
      let c : 1 ≡ r.kind = omega arith in
      let z : 0 ≡ r.zeros = omega arith in
      of_put p (first - 256) value ∙ ap (begin_of p) (λ i. record { process = k i; kind = c i; zeros = z i; value = is i })

  -- any other with a value
  pub begin_valued : 512 ≤ first → value ≢ 0 → None ≡ begin_of p r
  unfolding is_begin_put
  begin_valued low some =
      ill_begin p r (λ f.
      let c : r.kind ≢ 1 = λ e. omega (arith, f.blank) in
      some (is ∙ f.bare (ne_eqb _ _ c)))

  -- a take, or a kind above 2
  pub begin_take_lem : p ≤ 256 → 512 ≤ first → value ≡ 0 → (if leb p (first - 512) then None else opens (first - 512) Take) ≡ begin_of p r
  begin_take_lem narrow low none = on (leb p (first - 512)) refl
    where
      on : (b : Bool) → leb p (first - 512) ≡ b → (if leb p (first - 512) then None else opens (first - 512) Take) ≡ begin_of p r
      on true e = rw e (ill_begin p r (λ f. omega (arith, f.low, f.blank, f.kind, leb-true p (first - 512) e)))
      on false e =
          let h : first - 512 < p = leb-false p (first - 512) e in
          let high : r.kind + 256 * r.zeros ≡ 2 = omega arith in
          let k : first - 512 ≡ r.process = omega arith in
          let c : 2 ≡ r.kind = omega arith in
          let z : 0 ≡ r.zeros = omega arith in
          of_take p (first - 512) ∙ ap (begin_of p) (λ i. record { process = k i; kind = c i; zeros = z i; value = (sym none ∙ is) i })
