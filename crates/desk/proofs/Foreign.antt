-- The first foreign entry of a list: where there is none the list is plain, else it is cut behind that entry.
use Prim.Native.Nat.{ℕ, suc, ◌+◌, ◌*◌, ◌/◌, ◌%◌, ◌≤◌, ◌<◌}
use native.Mathlib.Omega.{arith}
use mathlib.Core.Path.{◌≡◌, refl, ap, sym, ◌∙◌}
use mathlib.Core.Logic.{◌≢◌, ◌⊎◌, inl, inr}
use mathlib.Core.Bool.{Bool, true, false}
use mathlib.Core.List.{List, [], ◌∷◌, ◌++◌}
use lib.ListN.{length, take, drop, length-append, take-append-drop}
use lib.Seq.{append_snoc, take_at, length-take-le}
use lib.Dec.{eqb}
use borrow.Author.Tests.{eqb-true, eq-eqb}
use Rattle.std.specs.Prelude.{if◌then◌else◌}
use Rattle.base.specs.Members.{All}
use Rattle.record.specs.declared.StepRecord.{StepRecord}
use Rattle.record.specs.StepRecords.{step_size, step_records}
use Rattle.record.proofs.Cuts.{records_length, records_append}
use Rattle.calls.specs.Refusals.{torn}
use Rattle.calls.proofs.CallAccepted.{whole_records}
use Rattle.desk_rules.specs.Entries.{is_foreign}
use Rattle.desk_rules.specs.Desk.{DeskResult, desk}
use Rattle.desk_terms.specs.Clauses.Foreign.{before_foreign}
use Rattle.desk.specs.Clauses.Deliverable.{Plain, EndsForeign}

module _ (licensed : ℕ) where
  -- ---- records
  before_all : (rs : List StepRecord) → before_foreign licensed rs ≡ length rs → All (λ r. is_foreign licensed r ≡ false) rs
  unfolding before_foreign
  before_all [] e = tt
  before_all (r ∷ rs) e = on (is_foreign licensed r) refl e (before_all rs)
    where
      on : (b : Bool) → is_foreign licensed r ≡ b → (if b then 0 else suc (before_foreign licensed rs)) ≡ suc (length rs)
          → (before_foreign licensed rs ≡ length rs → All (λ r. is_foreign licensed r ≡ false) rs) → (is_foreign licensed r ≡ false) × All (λ r. is_foreign licensed r ≡ false) rs
      on true f e ih = absurd (omega arith)
      on false f e ih = (f, ih (omega arith))

  before_most : (rs : List StepRecord) → before_foreign licensed rs ≤ length rs
  unfolding before_foreign
  before_most [] = omega arith
  before_most (r ∷ rs) = on (is_foreign licensed r) (before_most rs)
    where
      on : (b : Bool) → before_foreign licensed rs ≤ length rs → (if b then 0 else suc (before_foreign licensed rs)) ≤ suc (length rs)
      on true ih = omega arith
      on false ih = omega arith

  -- the first of a list that has one
  record First (rs : List StepRecord) (n : ℕ) : Type 0 where
    before : List StepRecord
    first : StepRecord
    after : List StepRecord
    is : rs ≡ before ++ (first ∷ after)
    many : length before ≡ n
    plain : All (λ r. is_foreign licensed r ≡ false) before
    foreign : is_foreign licensed first ≡ true

  first_one : (rs : List StepRecord) → before_foreign licensed rs < length rs → First rs (before_foreign licensed rs)
  unfolding before_foreign
  first_one [] l = absurd (omega arith)
  first_one (r ∷ rs) l = on (is_foreign licensed r) refl l (first_one rs)
    where
      on : (b : Bool) → is_foreign licensed r ≡ b → (if b then 0 else suc (before_foreign licensed rs)) < suc (length rs)
          → (before_foreign licensed rs < length rs → First rs (before_foreign licensed rs)) → First (r ∷ rs) (if b then 0 else suc (before_foreign licensed rs))
      on true f l ih = record { before = []; first = r; after = rs; is = refl; many = refl; plain = tt; foreign = f }
      on false f l ih =
          let x = ih (omega arith) in
          record {
            before = r ∷ x.before;
            first = x.first;
            after = x.after;
            is = ap (λ l. r ∷ l) x.is;
            many = ap suc x.many;
            plain = (f, x.plain);
            foreign = x.foreign;
          }

  -- ---- bytes
  module _ (records : List ℕ) (n : ℕ) (is : n ≡ before_foreign licensed (step_records records)) where
    -- torn, or without one
    pub none_foreign : {A B : Type 0} → A ⊎ B → (A → length records % 8 ≢ 0) → (B → eqb n (length records / 8) ≡ true) → Plain licensed records
    none_foreign (inl a) f g whole = absurd (f a (whole_records (length records) whole))
    none_foreign (inr b) f g whole = before_all (step_records records) (sym is ∙ eqb-true n (length records / 8) (g b) ∙ sym (records_length records))

    module _ (whole : length records % 8 ≡ 0) (not_all : n ≢ length records / 8) where
      some : n < length records / 8
      some = omega (arith, is, not_all, before_most (step_records records), records_length records)

      abbrev end : ℕ
      end = 8 * n + 8

      pub cut_within : 8 * n + 8 ≤ length records
      cut_within = omega (arith, some)

      cut_length_lem : length (take end records) ≡ end
      cut_length_lem = length-take-le end records cut_within

      cut_whole : torn step_size (length (take end records)) ≡ false
      unfolding torn step_size
      cut_whole = rw (cut_length_lem, eq-eqb ((8 * n + 8) % 8) 0 (omega arith))

      found : First (step_records records) (before_foreign licensed (step_records records))
      found = first_one (step_records records) (omega (arith, is, some, records_length records))

      both_ways : step_records (take end records) ++ step_records (drop end records) ≡ (found.before ++ (found.first ∷ [])) ++ found.after
      both_ways =
          sym (records_append (take end records) (drop end records) (whole_records (length (take end records)) cut_whole))
          ∙ ap step_records (take-append-drop end records)
          ∙ found.is
          ∙ sym (append_snoc found.before found.first found.after)

      cut_records : step_records (take end records) ≡ found.before ++ (found.first ∷ [])
      cut_records =
          sym (take_at (step_records (take end records)) (step_records (drop end records)) (suc n) (records_length (take end records) ∙ omega (arith, cut_length_lem)))
          ∙ ap (take (suc n)) both_ways
          ∙ take_at (found.before ++ (found.first ∷ [])) found.after (suc n) (omega (arith, length-append found.before (found.first ∷ []), found.many, is))

      pub ends_foreign : EndsForeign licensed (take (8 * n + 8) records)
      ends_foreign =
          record { whole = cut_whole; before = found.before; last = found.first; cut = cut_records; plain = found.plain; foreign = found.foreign }

      -- what the list so cut leaves, whatever follows, the whole one leaves
      pub rejoined : (p l : ℕ) (table output : List ℕ) (d : DeskResult)
          → ((more : List ℕ) → torn step_size (length (take (8 * n + 8) records ++ more)) ≡ false → d ≡ desk p l licensed (take (8 * n + 8) records ++ more) table output)
          → d ≡ desk p l licensed records table output
      unfolding torn step_size
      rejoined p l table output d f =
          f (drop end records) (rw (take-append-drop end records, eq-eqb (length records % 8) 0 whole))
          ∙ ap (λ (bytes : List ℕ). desk p l licensed bytes table output) (take-append-drop end records)
