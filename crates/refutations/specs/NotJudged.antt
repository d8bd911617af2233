-- Verdicts that the second promise of check a log refuses: on each of these logs it lets one verdict pass, or none but
-- a refusal. Each weaker promise that a mistakes/weak_judges_*.edit puts in its place would let another pass.
use Rattle.std.specs.Prelude.{ℕ, ◌≡◌, refl, List, [], ◌++◌, length, get_or, take}
use Rattle.std.proofs.Common.{arith, ap}
use Rattle.calls.specs.LogVerdict.{log_of_rules, NoRefusal, DifferFirst, Exactly, Judges}
use Rattle.calls.specs.Lists.{begin_take, steps}
use Rattle.refutations.specs.NotKept.{bytes}
use Rattle.calls.specs.All.{rules}

-- the records of a take alone at p = 2, L = 1, and its log: process 0, kind 3 for none, 17 steps, no help, value 0,
-- serial 1 and root block b
abbrev pub take_alone : List ℕ
take_alone = begin_take 0 ++ steps 17 0

abbrev pub log_with : ℕ → List ℕ
log_with b = bytes 0 3 17 0 0 1 b

-- the same with u helps, of which it has none
abbrev pub log_with_helps : ℕ → List ℕ
log_with_helps u = bytes 0 3 17 u 0 1 1

-- what is judged: a verdict v with index i on a log of that take, with a table of 49 words
abbrev pub VerdictTells : List ℕ → ℕ → ℕ → Type 0
VerdictTells log v i = Judges 2 1 49 take_alone log v i

-- the log of the rules: 'same'
pub on_its_log : (v i : ℕ) → VerdictTells (log_with 1) v i → v ≡ 0
unfolding rules begin_take steps
on_its_log v i j = j.same.1 (record { call = refl; list = refl }, refl)

-- a byte unequal: 'differs' at 0
pub on_another_byte : (v i : ℕ) → VerdictTells (log_with 2) v i → (v ≡ 1) × (i ≡ 0)
unfolding rules begin_take steps
on_another_byte v i j = (j.differs 0).1 (record { call = refl; list = refl }, record { before = refl; here = λ e. omega (arith, ap (λ (l : List ℕ). get_or l 12 0) e) })

-- byte 3 alone unequal: the same
pub on_another_help : (v i : ℕ) → VerdictTells (log_with_helps 1) v i → (v ≡ 1) × (i ≡ 0)
unfolding rules begin_take steps
on_another_help v i j = (j.differs 0).1 (record { call = refl; list = refl }, record { before = refl; here = λ e. omega (arith, ap (λ (l : List ℕ). get_or l 3 0) e) })

-- no record, and one too many: 'differs' at the record that is lacking in one
pub on_shorter : (v i : ℕ) → VerdictTells [] v i → (v ≡ 1) × (i ≡ 0)
unfolding rules begin_take steps
on_shorter v i j = (j.differs 0).1 (record { call = refl; list = refl }, record { before = refl; here = λ e. omega (arith, ap (λ (l : List ℕ). length l) e) })

pub on_longer : (v i : ℕ) → VerdictTells (log_with 1 ++ log_with 1) v i → (v ≡ 1) × (i ≡ 1)
unfolding rules begin_take steps
on_longer v i j = (j.differs 1).1 (record { call = refl; list = refl }, record { before = refl; here = λ e. omega (arith, ap (λ (l : List ℕ). length l) e) })

-- a torn log, and a list with a record that is refused: neither
abbrev pub Neither : ℕ → Type 0
Neither v = (v ≡ 0 → ⊥) × (v ≡ 1 → ⊥)

pub on_torn_log : (v i : ℕ) → VerdictTells (take 15 (log_with 1)) v i → Neither v
unfolding rules begin_take steps
on_torn_log v i j = (λ e. omega (arith, (j.same.0 e).0.call), λ e. omega (arith, ((j.differs i).0 (e, refl)).0.call))

pub on_refused_list : (v i : ℕ) → Judges 2 1 49 (steps 1 0) [] v i → Neither v
unfolding rules begin_take steps
on_refused_list v i j = (λ e. omega (arith, (j.same.0 e).0.list), λ e. omega (arith, ((j.differs i).0 (e, refl)).0.list))

-- what the promise says of every call: no less
module _ (p l words : ℕ) (records log : List ℕ) (v i : ℕ) (j : Judges p l words records log v i) where
  pub says_same : Exactly (v ≡ 0) (NoRefusal p l words records log × (log ≡ log_of_rules p l records))
  says_same = j.same

  pub says_differs : (n : ℕ) → Exactly ((v ≡ 1) × (i ≡ n)) (NoRefusal p l words records log × DifferFirst n (log_of_rules p l records) log)
  says_differs = j.differs
