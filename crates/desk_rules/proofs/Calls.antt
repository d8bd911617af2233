-- What the desk leaves, told by what list the order leaves: of the whole list where it has no foreign entry, else of
-- the list up to and with the first. `order` is an output as long as any list.
use Rattle.std.specs.Prelude.{if◌then◌else◌, Err}
use Prim.Native.Nat.{ℕ, ◌*◌, ◌≤◌, ◌<◌}
use mathlib.Core.Path.{◌≡◌, refl, ap, sym, ◌∙◌}
use mathlib.Core.Logic.{◌≢◌}
use mathlib.Core.Bool.{Bool, true, false}
use mathlib.Core.List.{List, [], ◌∷◌, ◌++◌}
use lib.ListN.{length, drop}
use lib.Seq.{append_snoc}
use borrow.Author.Tests.{le-leb, lt-leb}
use Rattle.base.specs.Members.{All}
use Rattle.record.specs.declared.StepRecord.{StepRecord}
use Rattle.record.specs.StepRecords.{step_size, step_records}
use Rattle.record.proofs.Cuts.{records_append}
use Rattle.tree.specs.Shape.{Shape, shape_for}
use Rattle.tree.specs.Layout.{words_needed}
use Rattle.tree.specs.Memory.{Memory}
use Rattle.calls.specs.Refusals.{Acceptance, refusal_number, accepted, torn, first_refusal, settings_refusal, bytes_refusal, buffer_refusal, call_refusal}
use Rattle.calls.specs.Run.{Played}
use Rattle.calls.specs.ListOrder.{play_all, ListResult, listed, list_order}
use Rattle.calls.proofs.Acceptance.{nonzero_refused}
use Rattle.calls.proofs.CallAccepted.{accepted_whole, whole_records}
use Rattle.calls.proofs.Theorem.{tall_for}
use Rattle.calls.proofs.ListLimits.{list_down, list_is}
use Rattle.calls.proofs.Unrefused.{list_accepted, list_played_lem}
use Rattle.desk_rules.specs.declared.DeskRefusal.TheVariants.{Licence, ForeignEntry}
use Rattle.desk_rules.specs.Entries.{is_foreign}
use Rattle.desk_rules.specs.DeskRefusals.{desk_number, DeskAcceptance, delivers, by_queue, first_desk_refusal, licence_refusal, desk_call_refusal}
use Rattle.desk_rules.specs.Desk.{Served, served, serve, DeskResult, sent, desk_served, desk}
use Rattle.desk_rules.proofs.Serving.{queue_delivers}
use Rattle.desk_rules.proofs.Lists.{serve_all, foreign_memory, serve_at}

-- a refusal by its number, where nothing is sent
abbrev pub turned_down : ℕ → List ℕ → List ℕ → DeskResult
turned_down n table output = record { refusal = n; count = 0; table = table; output = output }

-- of two tests
first_refused : (a b : DeskAcceptance) → delivers a ≡ false → first_desk_refusal a b ≡ a
unfolding first_desk_refusal
first_refused a b e = rw e

first_passed : (a b : DeskAcceptance) → delivers a ≡ true → first_desk_refusal a b ≡ b
unfolding first_desk_refusal
first_passed a b e = rw e

-- refused by the queue, with nothing sent
queue_sent : (n : Acceptance) (ts table output : List ℕ) → accepted n ≡ false → sent (by_queue n) ts table output ≡ turned_down (refusal_number n) table output
unfolding sent by_queue desk_number
queue_sent n ts table output e = rw e

-- a list that the queue refuses, at the desk
served_refused : (s : Shape) (g : Played) (table output : List ℕ) → accepted g.refusal ≡ false
    → desk_served s (served g) table output ≡ turned_down (refusal_number g.refusal) (g.machine.memory.table ++ drop (words_needed s) table) output
unfolding desk_served served
served_refused s g table output e = rw (first_refused (by_queue g.refusal) _ (queue_delivers g.refusal ∙ e)) (queue_sent g.refusal _ _ output e)

module _ (p l licensed : ℕ) (records table output : List ℕ) where
  abbrev tested : DeskAcceptance
  tested = desk_call_refusal p l licensed (length table) (length records)

  desk_refused : (n : DeskAcceptance) → tested ≡ n → delivers n ≡ false → desk p l licensed records table output ≡ sent n [] table output
  unfolding desk
  desk_refused n is e = rw (is, e)

  -- ---- before the table is lent
  pub desk_settings : accepted (settings_refusal p l) ≡ false → desk p l licensed records table output ≡ turned_down (refusal_number (settings_refusal p l)) table output
  unfolding desk_call_refusal
  desk_settings e =
      let n : DeskAcceptance = by_queue (settings_refusal p l) in
      let down : delivers n ≡ false = queue_delivers (settings_refusal p l) ∙ e in
      desk_refused n (first_refused n _ down) down ∙ queue_sent (settings_refusal p l) [] table output e

  module _ (settings : accepted (settings_refusal p l) ≡ true) where
    next_test : tested ≡ first_desk_refusal (licence_refusal p licensed) (by_queue (buffer_refusal (shape_for p l) (length table) (length records)))
    unfolding desk_call_refusal
    next_test = first_passed (by_queue (settings_refusal p l)) _ (queue_delivers (settings_refusal p l) ∙ settings)

    pub desk_licence : p ≤ licensed → desk p l licensed records table output ≡ turned_down 13 table output
    unfolding first_desk_refusal licence_refusal delivers desk_number sent
    desk_licence h = desk_refused (Err Licence) (next_test ∙ rw (le-leb p licensed h)) refl

  -- ---- then it is the queue's
  module _ (settings : accepted (settings_refusal p l) ≡ true) (low : licensed < p) where
    abbrev s : Shape
    s = shape_for p l

    abbrev n : Acceptance
    n = call_refusal p l (length table) (length records)

    call_is : tested ≡ by_queue n
    unfolding first_desk_refusal licence_refusal delivers call_refusal first_refusal
    call_is = next_test settings ∙ rw (lt-leb p licensed low, settings)

    desk_down : accepted n ≡ false → desk p l licensed records table output ≡ turned_down (refusal_number n) table output
    desk_down e = desk_refused (by_queue n) call_is (queue_delivers n ∙ e) ∙ queue_sent n [] table output e

    desk_on : accepted n ≡ true → desk p l licensed records table output ≡ desk_served s (serve s licensed (step_records records)) table output
    unfolding desk
    desk_on e = rw (call_is, queue_delivers n, e)

    -- refused as a list was
    abbrev as_listed : ListResult → DeskResult
    as_listed e = turned_down e.refusal e.table output

    -- ---- a list without a foreign entry
    module _ (order : List ℕ) (long : 8 * (p * l) ≤ length order) (plain : torn step_size (length records) ≡ false → All (λ r. is_foreign licensed r ≡ false) (step_records records))
      where
        abbrev g : Played
        g = play_all s (step_records records)

        desk_plain : accepted n ≡ true → desk p l licensed records table output ≡ desk_served s (served g) table output
        desk_plain e =
            desk_on e
            ∙ ap (λ (d : Served). desk_served s d table output) (serve_all s (tall_for p l) licensed (step_records records) (plain (accepted_whole p l (length table) (length records) e)))

        pub plain_refused : (list_order p l records table order).refusal ≢ 0
            → desk p l licensed records table output ≡ turned_down (list_order p l records table order).refusal (list_order p l records table order).table output
        unfolding listed
        plain_refused h = on (accepted n) refl
          where
            on : (b : Bool) → accepted n ≡ b
                → desk p l licensed records table output ≡ turned_down (list_order p l records table order).refusal (list_order p l records table order).table output
            on false e = desk_down e ∙ ap as_listed (sym (list_down p l records table order e))
            on true e =
                let is = list_is p l records table order e long in
                desk_plain e
                ∙ served_refused s g table output (nonzero_refused g.refusal (λ z. h (ap (λ (x : ListResult). x.refusal) is ∙ z)))
                ∙ ap as_listed (sym is)

        pub plain_delivers : (list_order p l records table order).refusal ≡ 0
            → desk p l licensed records table output ≡ desk_served (shape_for p l) (served (play_all (shape_for p l) (step_records records))) table output
        plain_delivers z = desk_plain (list_accepted p l records table order z)

-- ---- a list whose first foreign entry is the last record of xs, where ys are the bytes after it
module _ (p l licensed : ℕ) (xs ys table output : List ℕ) (settings : accepted (settings_refusal p l) ≡ true) (low : licensed < p)
    (order : List ℕ) (long : 8 * (p * l) ≤ length order) (whole : torn step_size (length (xs ++ ys)) ≡ false) (whole-first : torn step_size (length xs) ≡ false)
    (us : List StepRecord) (r : StepRecord) (cut : step_records xs ≡ us ++ (r ∷ [])) (plain : All (λ r. is_foreign licensed r ≡ false) us) (foreign : is_foreign licensed r ≡ true)
  where
    abbrev shape : Shape
    shape = shape_for p l

    abbrev n' : Acceptance
    n' = call_refusal p l (length table) (length xs)

    same_call : call_refusal p l (length table) (length (xs ++ ys)) ≡ n'
    unfolding call_refusal buffer_refusal bytes_refusal
    same_call = rw (whole, whole-first)

    records_are : step_records (xs ++ ys) ≡ us ++ (r ∷ step_records ys)
    records_are =
        records_append xs ys (whole_records (length xs) whole-first)
        ∙ ap (λ (l : List StepRecord). l ++ step_records ys) cut
        ∙ append_snoc us r (step_records ys)

    abbrev g' : Played
    g' = play_all shape (step_records xs)

    -- what it leaves, by the run of the records up to and with the entry
    abbrev ended_by : Played → Served
    ended_by x = if accepted x.refusal then record { run = play_all shape us; refusal = Err ForeignEntry } else served x

    abbrev ended : Served
    ended = ended_by g'

    desk_at : accepted n' ≡ true → desk p l licensed (xs ++ ys) table output ≡ desk_served shape ended table output
    desk_at e =
        desk_on p l licensed (xs ++ ys) table output settings low (ap accepted same_call ∙ e)
        ∙ ap (λ (rs : List StepRecord). desk_served shape (serve shape licensed rs) table output) records_are
        ∙ ap (λ (d : Served). desk_served shape d table output) (serve_at shape (tall_for p l) licensed us r (step_records ys) plain foreign)
        ∙ ap (λ (rs : List StepRecord). desk_served shape (ended_by (play_all shape rs)) table output) (sym cut)

    pub foreign_refused : (list_order p l xs table order).refusal ≢ 0
        → desk p l licensed (xs ++ ys) table output ≡ turned_down (list_order p l xs table order).refusal (list_order p l xs table order).table output
    unfolding listed
    foreign_refused h = on (accepted n') refl
      where
        left : ListResult → DeskResult
        left e = turned_down e.refusal e.table output

        on : (b : Bool) → accepted n' ≡ b
            → desk p l licensed (xs ++ ys) table output ≡ turned_down (list_order p l xs table order).refusal (list_order p l xs table order).table output
        on false e =
            desk_down p l licensed (xs ++ ys) table output settings low (ap accepted same_call ∙ e)
            ∙ ap (λ (k : Acceptance). turned_down (refusal_number k) table output) same_call
            ∙ ap left (sym (list_down p l xs table order e))
        on true e =
            let is = list_is p l xs table order e long in
            let no : accepted g'.refusal ≡ false = nonzero_refused g'.refusal (λ z. h (ap (λ (x : ListResult). x.refusal) is ∙ z)) in
            desk_at e
            ∙ ap (λ (d : Served). desk_served shape d table output) (rw no)
            ∙ served_refused shape g' table output no
            ∙ ap left (sym is)

    pub foreign_found : (list_order p l xs table order).refusal ≡ 0 → desk p l licensed (xs ++ ys) table output ≡ turned_down 14 (list_order p l xs table order).table output
    unfolding listed desk_served sent first_desk_refusal delivers desk_number
    foreign_found z =
        let e = list_accepted p l xs table order z in
        let is = list_is p l xs table order e long in
        let found : ended ≡ record { run = play_all shape us; refusal = Err ForeignEntry } = rw (list_played_lem p l xs table order z) in
        let memory = foreign_memory shape (tall_for p l) licensed us r (step_records ys) plain foreign in
        desk_at e
        ∙ ap (λ (d : Served). desk_served shape d table output) found
        ∙ ap (λ (m : Memory). turned_down 14 (m.table ++ drop (words_needed shape) table) output) (sym memory ∙ ap (λ (rs : List StepRecord). (play_all shape rs).machine.memory) (sym cut))
        ∙ ap (λ (x : ListResult). turned_down 14 x.table output) (sym is)
