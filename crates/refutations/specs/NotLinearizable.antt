-- Histories that are not linearizable or not wait-free: each clause helps to refute one, and each weaker clause that a
-- mistakes/weak_*.edit puts in its place would let one of them pass.
use Rattle.std.specs.Prelude.{ℕ, zero, suc, ◌≤◌, ◌<◌, ◌≡◌, refl, Bool, true, false, ◌&&◌, ◌||◌, List, [], ◌∷◌, ◌++◌, length, replicate, ltb, eqb, if◌then◌else◌}
use Rattle.std.proofs.Common.{arith, ap, sym, ◌∙◌, eqb-true, eq-eqb, ltb-true}
use Rattle.std.proofs.Math.Path.{subst⁻¹}
use Rattle.std.proofs.lemmas.Bool.{false≢true}
use Rattle.std.proofs.Math.Bool.{and-eq-true_iff}
use Rattle.base.specs.Members.{All}
use Rattle.record.specs.declared.Reply.{Reply}
use Rattle.record.specs.declared.Reply.TheVariants.{Done, Value, Nothing}
use Rattle.record.specs.declared.AnswerRecord.{AnswerRecord}
use Rattle.record.specs.AnswerRecords.{reply_kind}
use Rattle.tree.specs.Order.{OpId}
use Rattle.tree.specs.Standing.{same, times}
use Rattle.steps.specs.declared.Operation.TheVariants.{Put, Take}
use Rattle.calls.specs.History.{Event, opens, moves, finishes, operation, is_opening, is_opened, is_finished}
use Rattle.calls.specs.PlainQueue.{fed}
use Rattle.calls.specs.Demand3.{queue_answer}
use Rattle.calls.specs.Linearizable.{response, precedes, Linearizable, WaitFree}
use Rattle.calls.specs.All.{rules}
use Rattle.refutations.specs.NotKept.{x, y, x2, apart, stepping, counted}

-- ---- every order of operations that a history opens

-- the operations that some events open
unfoldable pub opening : List Event → List OpId
opening [] = []
opening (opens w o ∷ h) = w ∷ opening h
opening (moves w helped ∷ h) = opening h
opening (finishes w ∷ h) = opening h

-- what holds of each of them holds of w, if it is one
among : (P : OpId → Type 0) (h : List Event) (w : OpId) → is_opened w h ≡ true → All P (opening h) → P w
unfolding is_opened is_opening opening same
among P [] w e ps = absurd (false≢true e)
among P (opens v o ∷ h) w e ps = on (same w v) refl e (λ i. among P h w i ps.1)
  where
    on : (b : Bool) → same w v ≡ b → b || is_opened w h ≡ true → (is_opened w h ≡ true → P w) → P w
    on true q e r =
        let t = (and-eq-true_iff (eqb w.process v.process) (eqb w.serial v.serial)).0 q in
        subst⁻¹ P (λ i. record { process = eqb-true w.process v.process t.0 i; serial = eqb-true w.serial v.serial t.1 i }) ps.0
    on false q e r = r e
among P (moves v helped ∷ h) w e ps = among P h w e ps
among P (finishes v ∷ h) w e ps = among P h w e ps

-- nothing else is in an order
abbrev pub Invoked : List Event → List OpId → Type 0
Invoked h os = (w : OpId) → 1 ≤ times w os → is_opened w h ≡ true

-- what is in an order is in a longer one
more : (b : Bool) (n : ℕ) → 1 ≤ n → 1 ≤ (if b then suc n else n)
more true n l = omega arith
more false n l = l

-- so a proof for every order goes by its first operation, which is one of them
orders : (h : List Event) (P : List OpId → Type 0) → P [] → ((os : List OpId) → Invoked h os → P os → All (λ w. P (w ∷ os)) (opening h))
    → (os : List OpId) → Invoked h os → P os
unfolding times same
orders h P n c [] i = n
orders h P n c (w ∷ os) i =
    among (λ w. P (w ∷ os)) h w (i w (rw (eq-eqb w.process w.process refl, eq-eqb w.serial w.serial refl) (omega arith)))
    (c os rest (orders h P n c os rest))
  where
    rest : Invoked h os
    rest v l = i v (more (same v w) (times v os) l)

-- what another precedes is in the order
later : (v w : OpId) (os : List OpId) → precedes v w os ≡ true → 1 ≤ times w os
unfolding rules
later v w [] e = absurd (false≢true e)
later v w (u ∷ os) e = more (same w u) (times w os) (on (same v u) (ltb 0 (times w os)) refl (later v w os) e)
  where
    on : (a b : Bool) → ltb 0 (times w os) ≡ b → (precedes v w os ≡ true → 1 ≤ times w os) → a && b || precedes v w os ≡ true → 1 ≤ times w os
    on a true q r e = ltb-true 0 (times w os) q
    on true false q r e = r e
    on false false q r e = r e

-- 'none' is no 'done', and no value
not_none : (r : Reply) → reply_kind r < 3 → Nothing ≡ r → ⊥
unfolding reply_kind
not_none r l e = omega (arith, l, ap reply_kind e)

no_value : (n : ℕ) → Nothing ≡ Value n → ⊥
unfolding reply_kind
no_value n = not_none (Value n) (omega arith)

-- an answer; a response is its reply, whatever its steps, its helps and its root block
abbrev pub got : OpId → Reply → AnswerRecord
got w r = record { process = w.process; reply = r; steps = 1; helps = 0; serial = w.serial; block = 1 }

-- ---- a put of 7 finished before a take began: in every order the take gets 7

from_seven : (os : List OpId) → Invoked apart os → times x os ≡ 0 → times y os ≡ 1 → queue_answer apart y (7 ∷ []) os ≡ Value 7
unfolding rules opening
from_seven =
    orders apart (λ os. times x os ≡ 0 → times y os ≡ 1 → queue_answer apart y (7 ∷ []) os ≡ Value 7) (λ a b. absurd (omega arith))
    (λ os i r. ((λ a b. absurd (omega arith)), ((λ a b. refl), tt)))

from_empty : (os : List OpId) → Invoked apart os → times x os ≡ 1 → times y os ≡ 1 → precedes x y os ≡ true → queue_answer apart y [] os ≡ Value 7
unfolding rules opening
from_empty =
    orders apart (λ os. times x os ≡ 1 → times y os ≡ 1 → precedes x y os ≡ true → queue_answer apart y [] os ≡ Value 7) (λ a b p. absurd (omega arith))
    (λ os i r. ((λ a b p. from_seven os i (omega arith) b), ((λ a b p. absurd (omega (arith, later x y os p))), tt)))

-- responded, invoked, legal, keepsOrder: whatever the log
pub gets_seven : (log : List AnswerRecord) → Linearizable apart log → response log y ≡ Value 7
unfolding rules
gets_seven log l =
    let a : times x l.order ≡ 1 = omega (arith, l.responded x refl) in
    let b : times y l.order ≡ 1 = omega (arith, l.responded y refl) in
    l.legal y refl ∙ from_empty l.order l.invoked a b (l.keeps_order x y refl (omega arith) (omega arith))

pub lost_value : Linearizable apart (got x Done ∷ got y Nothing ∷ []) → ⊥
unfolding rules
lost_value l = no_value 7 (gets_seven (got x Done ∷ got y Nothing ∷ []) l)

-- responded, invoked, legal: and the put responds 'done'
pub put_is_done : (log : List AnswerRecord) → Linearizable apart log → response log x ≡ Done
unfolding rules opening
put_is_done log l = l.legal x refl ∙ in_order l.order l.invoked (omega (arith, l.responded x refl)) []
  where
    in_order : (os : List OpId) → Invoked apart os → 1 ≤ times x os → (q : List ℕ) → queue_answer apart x q os ≡ Done
    in_order =
        orders apart (λ os. 1 ≤ times x os → (q : List ℕ) → queue_answer apart x q os ≡ Done) (λ a q. absurd (omega arith))
        (λ os i r. ((λ a q. refl), ((λ a q. r a (fed Take q)), tt)))

pub put_got_none : Linearizable apart (got x Nothing ∷ got y (Value 7) ∷ []) → ⊥
unfolding rules
put_got_none l = not_none Done (omega arith) (put_is_done (got x Nothing ∷ got y (Value 7) ∷ []) l)

-- ---- a take finished before two puts began, one of another process and one of its own: in every order it gets none

abbrev pub before_puts : List Event
before_puts = opens x Take ∷ finishes x ∷ opens y (Put 7) ∷ opens x2 (Put 8) ∷ []

-- w is in an order at most once, and x before it
AfterX : OpId → List OpId → Type 0
AfterX w os = (times w os ≤ 1) × (1 ≤ times w os → precedes x w os ≡ true)

nothing_from : (os : List OpId) → Invoked before_puts os → AfterX y os → AfterX x2 os → queue_answer before_puts x [] os ≡ Nothing
unfolding rules opening AfterX
nothing_from =
    orders before_puts (λ os. AfterX y os → AfterX x2 os → queue_answer before_puts x [] os ≡ Nothing) (λ a b. refl)
    (λ os i r. ((λ a b. refl), ((λ a b. absurd (omega (arith, a.0, later x y os (a.1 (omega arith))))), ((λ a b. absurd (omega (arith, b.0, later x x2 os (b.1 (omega arith))))), tt))))

-- responded, once, invoked, legal, keepsOrder: whatever the log
pub gets_none : (log : List AnswerRecord) → Linearizable before_puts log → response log x ≡ Nothing
unfolding rules AfterX
gets_none log l =
    let a : 1 ≤ times x l.order = omega (arith, l.responded x refl) in
    l.legal x refl ∙ nothing_from l.order l.invoked (l.once y, l.keeps_order x y refl a) (l.once x2, l.keeps_order x x2 refl a)

pub got_too_soon : (n : ℕ) → Linearizable before_puts (got x (Value n) ∷ []) → ⊥
unfolding rules
got_too_soon n l = no_value n (sym (gets_none (got x (Value n) ∷ []) l))

-- ---- a put of 7 that has not finished, and two takes: they do not both get 7

abbrev pub z : OpId
z = operation 2 1

abbrev pub two_takes : List Event
two_takes = opens x (Put 7) ∷ opens y Take ∷ opens z Take ∷ finishes y ∷ finishes z ∷ []

-- from an empty queue, with the put not to come, nobody gets a value
without_put : (v : OpId) (os : List OpId) → Invoked two_takes os → times x os ≡ 0 → queue_answer two_takes v [] os ≡ Nothing
unfolding rules opening
without_put v =
    orders two_takes (λ os. times x os ≡ 0 → queue_answer two_takes v [] os ≡ Nothing) (λ a. refl)
    (λ os i r. ((λ a. absurd (omega arith)), ((λ a. on (same v y) (r a)), ((λ a. on (same v z) (r a)), tt))))
  where
    on : (b : Bool) {r : Reply} → r ≡ Nothing → (if b then Nothing else r) ≡ Nothing
    on true e = refl
    on false e = e

-- they do not, from a queue q fed an order
NotBoth : List ℕ → List OpId → Type 0
NotBoth q os = queue_answer two_takes y q os ≡ Value 7 → queue_answer two_takes z q os ≡ Value 7 → ⊥

not_from_seven : (os : List OpId) → Invoked two_takes os → times x os ≡ 0 → NotBoth (7 ∷ []) os
unfolding rules opening NotBoth
not_from_seven =
    orders two_takes (λ os. times x os ≡ 0 → NotBoth (7 ∷ []) os) (λ a e f. no_value 7 e)
    (λ os i r. ((λ a. absurd (omega arith)), ((λ a e f. no_value 7 (sym (without_put z os i a) ∙ f)), ((λ a e f. no_value 7 (sym (without_put y os i a) ∙ e)), tt))))

not_from_empty : (os : List OpId) → Invoked two_takes os → times x os ≤ 1 → NotBoth [] os
unfolding rules opening NotBoth
not_from_empty =
    orders two_takes (λ os. times x os ≤ 1 → NotBoth [] os) (λ a e f. no_value 7 e)
    (λ os i r. ((λ a. not_from_seven os i (omega arith)), ((λ a e f. no_value 7 e), ((λ a e f. no_value 7 f), tt))))

-- once, invoked, legal
pub got_twice : Linearizable two_takes (got y (Value 7) ∷ got z (Value 7) ∷ []) → ⊥
unfolding rules NotBoth
got_twice l = not_from_empty l.order l.invoked (l.once x) (sym (l.legal y refl)) (sym (l.legal z refl))

-- ---- wait-free with bound n

-- within: an operation of n steps and its Q
pub one_step_more : (n : ℕ) → WaitFree n (stepping n (finishes x ∷ [])) → ⊥
unfolding rules
one_step_more n f = omega (arith, counted n (finishes x ∷ []), f.within x)

-- told: a take that finished, and no record of the log is its answer
pub no_record : Linearizable (opens x Take ∷ finishes x ∷ []) [] → ⊥
unfolding rules
no_record l = omega (arith, ap length l.told)

-- responds: an operation of n steps that has not finished
unfinished : (n : ℕ) → is_finished x (replicate n (moves x false) ++ []) ≡ false
unfolding rules
unfinished zero = refl
unfinished (suc n) = unfinished n

pub no_response : (n : ℕ) → WaitFree n (stepping n []) → ⊥
unfolding rules
no_response n f = omega (arith, counted n [], f.responds x (unfinished n))
