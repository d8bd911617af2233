-- The values that the last answers leave in the slots, and those that one answer more leaves there.
use Prim.Native.Nat.{ℕ}
use mathlib.Core.Path.{◌≡◌, refl, ap, sym, ◌∙◌, subst}
use mathlib.Core.List.{List, [], ◌∷◌, ◌++◌, map, append-nil, append_assoc}
use lib.ListN.{length, set, length-set}
use Rattle.base.specs.Members.{All}
use Rattle.record.specs.declared.AnswerRecord.{AnswerRecord}
use Rattle.record.specs.AnswerRecords.{reply_value}
use Rattle.record.specs.ReadAnswers.{answer_record}
use Rattle.desk_terms.specs.Clauses.Slots.{slot_of, HasSlot, entered}

pub entered_length : (l : ℕ) (log : List AnswerRecord) (ws : List ℕ) → length (entered l log ws) ≡ length ws
unfolding entered
entered_length l [] ws = refl
entered_length l (a ∷ log) ws = length-set (entered l log ws) _ _ ∙ entered_length l log ws

-- what holds of all answers holds of one in the middle
middle_has : (P : AnswerRecord → Type 0) (xs ys : List (List ℕ)) (x : List ℕ) → All P (map answer_record (xs ++ (x ∷ ys))) → P (answer_record x)
middle_has P [] ys x all = all.0
middle_has P (y ∷ xs) ys x all = middle_has P xs ys x all.1

-- the answers behind the first ones, which are left, are entered
pub record EnteredBehind (l : ℕ) (answers : List (List ℕ)) (before after : List ℕ) (left : List (List ℕ)) : Type 0 where
  pub passed : List (List ℕ)
  pub cut : answers ≡ left ++ passed
  pub words : after ≡ entered l (map answer_record passed) before

module _ (l : ℕ) (answers : List (List ℕ)) (before : List ℕ) where
  pub entered_none : EnteredBehind l answers before before answers
  unfolding entered
  entered_none = record { passed = []; cut = sym (append-nil answers); words = refl }

  pub entered_all : (after : List ℕ) (left : List (List ℕ)) → length left ≡ 0 → EnteredBehind l answers before after left → after ≡ entered l (map answer_record answers) before
  entered_all after [] e z = z.words ∙ ap (λ (xs : List (List ℕ)). entered l (map answer_record xs) before) (sym z.cut)
  entered_all after (x ∷ left) e z = cc

  -- the last of those that are left
  module _ (after : List ℕ) (left rest : List (List ℕ)) (x : List ℕ) (z : EnteredBehind l answers before after left) (last : left ≡ rest ++ (x ∷ []))
      (a : AnswerRecord) (is : a ≡ answer_record x)
    where
      cut_there : answers ≡ rest ++ (x ∷ z.passed)
      cut_there = z.cut ∙ ap (λ (xs : List (List ℕ)). xs ++ z.passed) last ∙ append_assoc rest (x ∷ []) z.passed

      pub entered_more : EnteredBehind l answers before (set after (slot_of l a.process a.serial) (reply_value a.reply)) rest
      unfolding entered
      entered_more =
          record {
            passed = x ∷ z.passed;
            cut = cut_there;
            words = rw (is, z.words);
          }

      pub entered_slot : (n : ℕ) → All (λ (b : AnswerRecord). HasSlot l n b.process b.serial) (map answer_record answers) → HasSlot l n a.process a.serial
      entered_slot n all =
          let P : AnswerRecord → Type 0 = λ b. HasSlot l n b.process b.serial in
          rw is (middle_has P rest z.passed x (subst (λ (xs : List (List ℕ)). All P (map answer_record xs)) cut_there all))
