-- What list the order leaves, by whether the call is turned down, a record refused, or the list longer than the output.
use Rattle.std.specs.Prelude.{Result, Ok, Err}
use Prim.Native.Nat.{ℕ, ◌*◌, ◌≤◌, ◌<◌}
use mathlib.Core.Path.{◌≡◌, ap, sym, ◌∙◌, subst}
use mathlib.Core.Bool.{true}
use mathlib.Core.List.{List, ◌++◌}
use lib.ListN.{length, take, drop}
use borrow.Author.Tests.{lt-ltb, le-ltb}
use Rattle.record.specs.StepRecords.{step_records}
use Rattle.record.specs.AnswerRecords.{answer_size}
use Rattle.tree.specs.Shape.{Shape, shape_for}
use Rattle.tree.specs.Layout.{words_needed}
use Rattle.tree.specs.Memory.{Memory, memory_of}
use Rattle.tree.specs.Clauses.Invariant.{Sized, Sound}
use Rattle.tree.specs.Clauses.SoundTree.{SoundTree}
use Rattle.steps.proofs.Invariant.{Invariant}
use Rattle.calls.specs.declared.Refusal.{Refusal}
use Rattle.calls.specs.declared.Refusal.TheVariants.{OutputShort}
use Rattle.calls.specs.Refusals.{Acceptance, paper_number, refusal_number, accepted, call_refusal}
use Rattle.calls.specs.Run.{Played}
use Rattle.order.specs.OrderList.{order_list}
use Rattle.calls.specs.ListOrder.{play_all, list_refusal, listed, list_played, list_order}
use Rattle.calls.proofs.CallAccepted.{accepted_processes, accepted_operations}
use Rattle.calls.proofs.Theorem.{tall_for}
use Rattle.steps.proofs.Limits.{allowed_most, allowed_width, short_for}
use Rattle.player.specs.declared.Outcome.{Outcome}
use Rattle.player.proofs.PlayLaws.{played_agrees}
use Rattle.queue.specs.Left.{list_left}
use Rattle.queue.specs.Clauses.PlayedAll.{PlayedAll}
use Rattle.queue.specs.Clauses.ListingCall.{ListingCall, list_from}
use Rattle.queue.proofs.PlayAll.{all_left}

-- ---- the list of a played table

pub listing_tree : (p l : ℕ) (heads table : List ℕ) → ListingCall p l heads table → SoundTree (shape_for p l) heads table
unfolding shape_for
listing_tree p l heads table k =
    record { inner = tall_for p l; tall = short_for p l; few = (allowed_most l k.operations).1; sized = k.sized; sound = k.sound }

-- the first heads and words of more are its memory
pub listing_nodes : (p l : ℕ) (heads table : List ℕ) → ListingCall p l (take (2 * p) heads) table → 2 * p ≡ length (take (2 * p) heads)
listing_nodes p l heads table k = sym (k.sized.heads ∙ ap (λ (x : ℕ). 2 * x) (allowed_width p l k.processes))

pub listing_words : (p l : ℕ) (heads table : List ℕ) → ListingCall p l heads (take (words_needed (shape_for p l)) table) → (n : ℕ) → n ≡ words_needed (shape_for p l)
    → n ≡ length (take n table)
listing_words p l heads table k n e = rw e (sym k.sized.words)

-- longer than the output, or written
pub list_short : (s : Shape) (t table output : List ℕ) → length output < length (order_list s t)
    → list_left (Err OutputShort) table output ≡ list_from s t table output
unfolding list_left list_from list_refusal listed accepted paper_number refusal_number
list_short s t table output h = rw (lt-ltb _ _ h)

pub list_written_lem : (s : Shape) (t table output output' : List ℕ) (n : ℕ) → n ≡ length (order_list s t) → length (order_list s t) ≤ length output
    → output' ≡ order_list s t ++ drop (length (order_list s t)) output
    → list_left (Ok n) table output' ≡ list_from s t table output
unfolding list_left list_from list_refusal listed accepted paper_number refusal_number
list_written_lem s t table output output' n e h f = rw (le-ltb _ _ h) (λ i. record { refusal = 0; length = e i; table = table; output = f i })

-- ---- the call
module _ (p l : ℕ) (records table output : List ℕ) where
  abbrev n : Acceptance
  n = call_refusal p l (length table) (length records)

  pub list_down : (m : Refusal) → Err m ≡ n → list_left (Err m) table output ≡ list_order p l records table output
  unfolding list_left list_order listed accepted refusal_number
  list_down m e = rw (← e)

-- played
module _ {p l : ℕ} {records log table : List ℕ} {o : Outcome} {heads' table' : List ℕ}
    (ok : accepted (call_refusal p l (length table) (length records)) ≡ true) (k : PlayedAll p l records log table o heads' table')
  where
    abbrev s : Shape
    s = shape_for p l

    abbrev g : Played
    g = play_all s (step_records records)

    is_listed : (output : List ℕ) → list_played s g table output ≡ list_order p l records table output
    unfolding list_order
    is_listed output = rw ok

    pub list_refused : (output : List ℕ) (m : Refusal) → o.ended ≡ Err m → list_left (Err m) table' output ≡ list_order p l records table output
    unfolding list_left list_played list_refusal listed accepted refusal_number
    list_refused output m e =
        ap (λ (t : List ℕ). record { refusal = paper_number m; length = 0; table = t; output = output }) (all_left k)
        ∙ (rw (sym k.result.ended ∙ e))
        ∙ is_listed output

    -- the table and the heads are a sound memory
    pub list_listing : ListingCall p l heads' (take (words_needed s) table')
    unfolding play_all
    list_listing =
        let keeps : Invariant s g.machine = (played_agrees s (tall_for p l) (answer_size * length (step_records records)) (step_records records)).invariant in
        let same : ◌≡◌ {A = Memory} g.machine.memory (memory_of (take (words_needed s) table') heads') =
        λ i. record { table = sym k.result.words i; heads = sym k.result.nodes i }
        in
        record {
          processes = accepted_processes p l (length table) (length records) ok;
          operations = accepted_operations p l (length table) (length records) ok;
          sized = subst (Sized s) same keeps.sized;
          sound = subst (Sound s) same keeps.sound;
        }

    pub list_left_lem : (r : Result ℕ Refusal) (output output' : List ℕ) → o.ended ≡ Ok tt
        → list_left r table' output' ≡ list_from s (take (words_needed s) table') table' output → list_left r table' output' ≡ list_order p l records table output
    unfolding list_played list_refusal list_from accepted refusal_number
    list_left_lem r output output' e f =
        f
        ∙ ap (λ (x : List ℕ). list_from s x table' output) k.result.words
        ∙ ap (λ (x : List ℕ). list_from s g.machine.memory.table x output) (all_left k)
        ∙ (rw (sym k.result.ended ∙ e))
        ∙ is_listed output
