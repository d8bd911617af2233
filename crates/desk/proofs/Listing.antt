-- What list the order left, called with an output of 32,000 bytes, tells of the desk.
use Prim.Native.Nat.{ℕ, ◌*◌, ◌≤◌}
use native.Mathlib.Omega.{arith}
use mathlib.Core.Path.{◌≡◌, refl, ap, sym, ◌∙◌}
use mathlib.Core.Logic.{◌≢◌}
use mathlib.Core.Bool.{false}
use mathlib.Core.List.{List, ◌++◌}
use lib.ListN.{length, take, drop, length-append}
use lib.Seq.{drop_at}
use Rattle.record.specs.StepRecords.{step_size, step_records}
use Rattle.record.specs.AnswerRecords.{answer_size}
use Rattle.tree.specs.Shape.{Shape, shape_for}
use Rattle.tree.specs.Layout.{words_needed}
use Rattle.order.specs.OrderList.{order_list}
use Rattle.calls.specs.Refusals.{accepted, torn, call_refusal}
use Rattle.calls.specs.Run.{Played}
use Rattle.calls.specs.ListOrder.{ListResult, play_all, listed, list_order}
use Rattle.calls.specs.Continuation.{list_written}
use Rattle.calls.proofs.CallAccepted.{settings_few}
use Rattle.calls.proofs.Theorem.{tall_for, played_words}
use Rattle.calls.proofs.ListLimits.{list_is}
use Rattle.calls.proofs.Unrefused.{list_accepted, list_played_lem, list_bytes}
use Rattle.queue.specs.declared.OtqList.{OtqList}
use Rattle.queue.specs.Exported.{list_exported}
use Rattle.std.specs.Prelude.{Err}
use Rattle.desk_rules.specs.declared.DeskRefusal.{DeskRefusal}
use Rattle.desk_rules.specs.declared.DeskRefusal.TheVariants.{Queue, ForeignEntry}
use Rattle.desk_rules.specs.DeskRefusals.{desk_number}
use Rattle.desk_rules.specs.Desk.{DeskResult, served, desk_served, desk}
use Rattle.desk_rules.proofs.Calls.{turned_down, plain_refused, plain_delivers, foreign_refused, foreign_found}
use Rattle.desk_listed.specs.Left.{desk_left}
use Rattle.desk_listed.specs.Clauses.Deliverable.{Listed}
use Rattle.desk.specs.Clauses.Deliverable.{Allowed, Plain, EndsForeign}

-- a list that is refused delivers nothing
pub left_refused : (why : DeskRefusal) (table output : List ℕ) → desk_left (Err why) table output ≡ turned_down (desk_number why) table output
unfolding desk_left
left_refused why table output = refl

-- such a call
pub record ListedBy (p l licensed : ℕ) (records table order : List ℕ) (r : OtqList) (table' order' : List ℕ) : Type 0 where
  pub allowed : Allowed p l licensed
  pub room : length order ≡ 32000
  pub left : list_exported r table' order' ≡ list_order p l records table order

module _ {p l licensed : ℕ} {records table order : List ℕ} {r : OtqList} {table' order' : List ℕ} (by : ListedBy p l licensed records table order r table' order') where
  abbrev e : ListResult
  e = list_order p l records table order

  told : r.refusal ≡ e.refusal
  unfolding list_exported
  told = ap (λ (x : ListResult). x.refusal) by.left

  size_left : r.length ≡ e.length
  unfolding list_exported
  size_left = ap (λ (x : ListResult). x.length) by.left

  words_left : table' ≡ e.table
  unfolding list_exported
  words_left = ap (λ (x : ListResult). x.table) by.left

  bytes_left : order' ≡ e.output
  unfolding list_exported
  bytes_left = ap (λ (x : ListResult). x.output) by.left

  long : 8 * (p * l) ≤ length order
  long = omega (arith, by.room, settings_few p l by.allowed.settings)

  -- refused as the list was
  as_left : (output : List ℕ) → turned_down r.refusal table' output ≡ turned_down e.refusal e.table output
  as_left output = rw (told, words_left)

  module _ (no : r.refusal ≢ 0) where
    no_list : e.refusal ≢ 0
    no_list z = no (told ∙ z)

    start : (output : List ℕ) → desk_left (Err (Queue r.refusal)) table' output ≡ turned_down e.refusal e.table output
    unfolding desk_number
    start output = left_refused (Queue r.refusal) table' output ∙ as_left output

    pub plain_down : Plain licensed records → (output : List ℕ) → desk_left (Err (Queue r.refusal)) table' output ≡ desk p l licensed records table output
    plain_down plain output = start output ∙ sym (plain_refused p l licensed records table output by.allowed.settings by.allowed.licence order long plain no_list)

    pub foreign_down : EndsForeign licensed records → (more output : List ℕ) → torn step_size (length (records ++ more)) ≡ false
        → desk_left (Err (Queue r.refusal)) table' output ≡ desk p l licensed (records ++ more) table output
    foreign_down f more output whole =
        start output
        ∙ sym (foreign_refused p l licensed records more table output by.allowed.settings by.allowed.licence order long whole f.whole f.before f.last f.cut
        f.plain f.foreign no_list)

  module _ (none : r.refusal ≡ 0) where
    none_list : e.refusal ≡ 0
    none_list = sym (told) ∙ none

    pub foreign_14 : EndsForeign licensed records → (more output : List ℕ) → torn step_size (length (records ++ more)) ≡ false
        → desk_left (Err ForeignEntry) table' output ≡ desk p l licensed (records ++ more) table output
    unfolding desk_number
    foreign_14 f more output whole =
        left_refused ForeignEntry table' output
        ∙ ap (λ (t : List ℕ). turned_down 14 t output) (words_left)
        ∙ sym (foreign_found p l licensed records more table output by.allowed.settings by.allowed.licence order long whole f.whole f.before f.last f.cut
        f.plain f.foreign none_list)

    abbrev s : Shape
    s = shape_for p l

    abbrev g : Played
    g = play_all s (step_records records)

    written : take r.length order' ≡ list_written e
    unfolding list_written
    written = ap (λ (n : ℕ). take n order') (size_left) ∙ ap (take e.length) (bytes_left)

    pub listed_here : length table' ≡ length table → Listed p l records (length table') (take r.length order')
    listed_here same =
        record {
          call = ap (λ (n : ℕ). accepted (call_refusal p l n (length records))) same ∙ list_accepted p l records table order none_list;
          taken = list_played_lem p l records table order none_list;
          list = written ∙ list_bytes p l records table order none_list;
        }

    list_here : e ≡ listed g.refusal (order_list s g.machine.memory.table) (g.machine.memory.table ++ drop (words_needed s) table) order
    list_here = list_is p l records table order (list_accepted p l records table order none_list) long

    pub within_here : r.length ≤ length order'
    unfolding listed
    within_here =
        rw (size_left, bytes_left, list_here, list_played_lem p l records table order none_list)
        (omega (arith, length-append (order_list s g.machine.memory.table) (drop (length (order_list s g.machine.memory.table)) order)))

    words_are : table' ≡ g.machine.memory.table ++ drop (words_needed s) table
    unfolding listed
    words_are = words_left ∙ ap (λ (x : ListResult). x.table) list_here

    rest_same : drop (words_needed s) table' ≡ drop (words_needed s) table
    unfolding play_all
    rest_same =
        ap (drop (words_needed s)) words_are
        ∙ drop_at g.machine.memory.table (drop (words_needed s) table) (words_needed s)
        (played_words s (tall_for p l) (answer_size * length (step_records records)) (step_records records))

    pub listed_desk : Plain licensed records → (output : List ℕ) (d : DeskResult)
        → d ≡ desk_served (shape_for p l) (served (play_all (shape_for p l) (step_records records))) table' output → d ≡ desk p l licensed records table output
    unfolding desk_served
    listed_desk plain output d is =
        is ∙ rw rest_same (sym (plain_delivers p l licensed records table output by.allowed.settings by.allowed.licence order long plain none_list))
