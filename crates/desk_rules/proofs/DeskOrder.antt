-- What the desk sends of a list that is not refused is in the order of the puts: of every p, L, licensed process, list
-- of bytes, table and output, where the words left fit 32 bits.
use Rattle.std.specs.Prelude.{if◌then◌else◌, Ok, Err}
use Prim.Native.Nat.{ℕ, ◌*◌, ◌^◌, ◌≤◌, ◌<◌}
use native.Mathlib.Omega.{arith}
use mathlib.Core.Path.{◌≡◌, refl, ap, sym, ◌∙◌, subst}
use mathlib.Core.Bool.{Bool, true, false, true≢false, not, ◌&&◌}
use mathlib.Core.List.{List, [], ◌∷◌, ◌++◌, map, flat_map, foldl}
use lib.ListN.{length, get_or, take, drop}
use lib.Seq.{take_at}
use Rattle.base.specs.Members.{All}
use Rattle.base.proofs.Members.{all_map, all_append}
use lib.Dec.{ltb, leb}
use Rattle.base.proofs.Cases.{both, cases, contradiction}
use Rattle.record.specs.declared.StepRecord.{StepRecord}
use Rattle.record.specs.declared.Reply.{Reply}
use Rattle.record.specs.declared.Reply.TheVariants.{Done, Value, Nothing}
use Rattle.record.specs.declared.AnswerRecord.{AnswerRecord}
use Rattle.encoding.specs.Bytes.{bytes_of, number_of, cut}
use Rattle.record.specs.StepRecords.{step_records}
use Rattle.record.specs.AnswerRecords.{answer_size, reply_value}
use Rattle.encoding.proofs.Lengths.{bytes_length}
use Rattle.encoding.proofs.ReadBack.{number_back, list_back}
use Rattle.tree.specs.Shape.{Shape, shape_for}
use Rattle.tree.specs.Layout.{words_needed}
use Rattle.tree.specs.Order.{OpId, root_operations}
use Rattle.tree.specs.Standing.{same}
use Rattle.steps.proofs.Limits.{allowed_most, short_for}
use Rattle.calls.specs.Refusals.{Acceptance, accepted, settings_refusal}
use Rattle.calls.specs.Numbered.{numbered}
use Rattle.calls.specs.Run.{Played, at_start, play_record, play}
use Rattle.calls.proofs.Acceptance.{accepted_zero}
use Rattle.calls.specs.ListOrder.{play_all}
use Rattle.calls.specs.History.{operation, history}
use Rattle.calls.specs.Linearizable.{response}
use Rattle.calls.proofs.Played.{took_all}
use Rattle.calls.proofs.CallAccepted.{settings_operations}
use Rattle.calls.proofs.Theorem.{tall_for, played_words}
use Rattle.calls.proofs.RecordsFit.{first_below}
use Rattle.calls.proofs.PlayedRecords.{played_answered, played_unanswered, played_once, played_answers_fit}
use Rattle.desk_rules.specs.Entries.{is_entry, is_foreign, term_of, term_size, term_bytes}
use Rattle.desk_rules.specs.DeskRefusals.{desk_number, DeskAcceptance, delivers, by_queue, first_desk_refusal, licence_refusal, desk_call_refusal}
use Rattle.desk_rules.specs.Desk.{Served, served, serve_record, serve, term_in, terms, DeskResult, sent, output_refusal, desk_served, desk}
use Rattle.desk_rules.specs.Deliveries.{InPutOrder, DeliversInOrder}
use Rattle.desk_rules.proofs.Serving.{queue_delivers, served_delivers}
use Rattle.desk_rules.proofs.Delivering.{serve_delivers}
use Rattle.desk_rules.proofs.InOrder.{in_put_order}

-- ---- the terms fit four bytes
abbrev Fits : ℕ → Type 0
Fits x = x < 2 ^ 32

response_fits : (x : OpId) (log : List AnswerRecord) → All (λ (a : AnswerRecord). Fits (reply_value a.reply)) log → Fits (reply_value (response log x))
unfolding response reply_value
response_fits x [] f = omega arith
response_fits x (a ∷ log) f = both (λ (r : Reply). Fits (reply_value r)) (same x (operation a.process a.serial)) f.0 (response_fits x log f.1)

term_fits : (r : Reply) → Fits (reply_value r) → All Fits (term_in r)
unfolding term_in reply_value term_of
term_fits Done f = tt
term_fits (Value v) f = both (All Fits) (is_entry v) (omega (arith, f), tt) tt
term_fits Nothing f = tt

gathered : (log : List AnswerRecord) → All (λ (a : AnswerRecord). Fits (reply_value a.reply)) log → (order : List OpId) → All Fits (flat_map (λ x. term_in (response log x)) order)
unfolding flat_map
gathered log f [] = tt
gathered log f (x ∷ order) = all_append Fits (term_in (response log x)) _ (term_fits (response log x) (response_fits x log f)) (gathered log f order)

-- so they are read as they were sent
sent_back : (ts rest : List ℕ) → All Fits ts → map number_of (cut term_size (length ts) (term_bytes ts ++ rest)) ≡ ts
unfolding term_size term_bytes
sent_back ts rest f = list_back 4 (bytes_of 4) number_of (bytes_length 4) ts rest (all_map ts (λ t h. number_back 4 t h) f)

-- ---- a call that is not refused
-- its tests passed, one after the other
passed_all : (a b : DeskAcceptance) → delivers (first_desk_refusal a b) ≡ true → (delivers a ≡ true) × (delivers b ≡ true)
unfolding first_desk_refusal
passed_all a b h = on (delivers a) refl h
  where
    on : (x : Bool) → delivers a ≡ x → delivers (if x then b else a) ≡ true → (delivers a ≡ true) × (delivers b ≡ true)
    on true z h = (z, h)
    on false z h = contradiction (delivers a) h z

-- a refusal has a number: of those of the queue, that by which the queue refuses
abbrev Told : DeskAcceptance → Type 0
Told n = (ts table output : List ℕ) → (sent n ts table output).refusal ≡ 0 → delivers n ≡ true

told_queue : (n : Acceptance) → Told (by_queue n)
unfolding sent delivers by_queue desk_number
told_queue n = cases Told (accepted n) (λ e ts table output z. refl) (λ e ts table output z. absurd (true≢false (sym (accepted_zero n z) ∙ e)))

told_licence : (p licensed : ℕ) → Told (licence_refusal p licensed)
unfolding sent delivers licence_refusal desk_number
told_licence p licensed = both Told (leb p licensed) (λ ts table output z. absurd (omega arith)) (λ ts table output z. refl)

told_output : (ts : List ℕ) (output : ℕ) → Told (output_refusal ts output)
unfolding sent delivers output_refusal desk_number
told_output ts output = both Told (ltb output (term_size * length ts)) (λ ts table output z. absurd (omega arith)) (λ ts table output z. refl)

told_first : (a b : DeskAcceptance) → Told a → Told b → Told (first_desk_refusal a b)
unfolding first_desk_refusal
told_first a b f g = both Told (delivers a) g f

module _ (s : Shape) (room licensed : ℕ) where
  told_record : (d : Served) (r : StepRecord) → Told d.refusal → Told (serve_record s room licensed d r).refusal
  unfolding sent delivers serve_record served desk_number
  told_record d r f =
      let g : Played = play_record s room d.run r in
      both (λ (x : Served). Told x.refusal) (not (delivers d.refusal)) f
      (both (λ (x : Served). Told x.refusal) (accepted g.refusal && is_foreign licensed r) (λ ts table output z. absurd (omega arith)) (told_queue g.refusal))

  told_list : (d : Served) (rs : List StepRecord) → Told d.refusal → Told (foldl (serve_record s room licensed) d rs).refusal
  told_list d [] f = f
  told_list d (r ∷ rs) f = told_list (serve_record s room licensed d r) rs (told_record d r f)

told_served : (s : Shape) (licensed : ℕ) (rs : List StepRecord) → Told (serve s licensed rs).refusal
unfolding serve served
told_served s licensed rs = told_list s (answer_size * length rs) licensed (served (at_start s)) rs (told_queue (at_start s).refusal)

sent_all : (n : DeskAcceptance) (ts table output : List ℕ) → delivers n ≡ true
    → sent n ts table output ≡ record { refusal = 0; count = length ts; table = table; output = term_bytes ts ++ drop (term_size * length ts) output }
unfolding sent delivers
sent_all (Ok passed) ts table output e = refl
sent_all (Err why) ts table output e = cc

module _ (p l licensed : ℕ) (records table output : List ℕ) (none : (desk p l licensed records table output).refusal ≡ 0) where
  abbrev s : Shape
  s = shape_for p l

  abbrev rs : List StepRecord
  rs = step_records records

  abbrev n : DeskAcceptance
  n = desk_call_refusal p l licensed (length table) (length records)

  call_told : Told n
  unfolding desk_call_refusal
  call_told = told_first _ _ (told_queue _) (told_first _ _ (told_licence p licensed) (told_queue _))

  call_delivers : delivers n ≡ true
  unfolding desk
  call_delivers = on (delivers n) refl none
    where
      on : (b : Bool) → delivers n ≡ b → (if b then desk_served s (serve s licensed rs) table output else sent n [] table output).refusal ≡ 0 → delivers n ≡ true
      on true z h = z
      on false z h = call_told [] table output h

  settings : accepted (settings_refusal p l) ≡ true
  unfolding desk_call_refusal
  settings = sym (queue_delivers (settings_refusal p l)) ∙ (passed_all (by_queue (settings_refusal p l)) _ call_delivers).0

  desk_is : desk p l licensed records table output ≡ desk_served s (serve s licensed rs) table output
  unfolding desk
  desk_is = rw call_delivers

  list_delivers : delivers (serve s licensed rs).refusal ≡ true
  unfolding desk_served
  list_delivers = (passed_all (serve s licensed rs).refusal _ (told_first _ _ (told_served s licensed rs) (told_output _ _) _ _ _ (ap (λ (x : DeskResult). x.refusal) (sym desk_is) ∙ none))).0

  abbrev g : Played
  g = play_all s rs

  abbrev t : List ℕ
  t = g.machine.memory.table

  abbrev ts : List ℕ
  ts = terms s g.answers t

  list_is : serve s licensed rs ≡ served g
  list_is = serve_delivers s licensed rs list_delivers

  taken : accepted g.refusal ≡ true
  taken = sym (served_delivers g) ∙ ap (λ (d : Served). delivers d.refusal) (sym list_is) ∙ list_delivers

  all_sent : desk p l licensed records table output
      ≡ record { refusal = 0; count = length ts; table = t ++ drop (words_needed s) table; output = term_bytes ts ++ drop (term_size * length ts) output }
  unfolding desk_served served
  all_sent =
      let is : desk p l licensed records table output ≡ desk_served s (served g) table output = desk_is ∙ ap (λ (d : Served). desk_served s d table output) list_is in
      is ∙ sent_all _ ts (t ++ drop (words_needed s) table) output (told_first _ _ (told_queue g.refusal) (told_output _ _) ts (t ++ drop (words_needed s) table) output (ap (λ (x : DeskResult). x.refusal) (sym is) ∙ none))

  -- ---- its terms are in order
  abbrev room : ℕ
  room = answer_size * length rs

  -- what is said of the run's records taken is said of all
  all_taken : take (play s room rs).taken rs ≡ rs
  unfolding play_all
  all_taken = took_all s room rs taken

  in_order_lem : InPutOrder (history s (numbered rs)) (root_operations s t) ts
  unfolding play_all
  in_order_lem =
      subst (λ (l : List StepRecord). InPutOrder (history s (numbered l)) (root_operations s t) ts) all_taken
      (in_put_order s t (history s (numbered (take (play s room rs).taken rs))) g.answers (played_once s (tall_for p l) room rs) (played_answered s (tall_for p l) room rs)
      (played_unanswered s (tall_for p l) room rs))

  words_back : take (words_needed s) (t ++ drop (words_needed s) table) ≡ t
  unfolding play_all
  words_back = take_at t (drop (words_needed s) table) (words_needed s) (played_words s (tall_for p l) room rs)

  few : s.most ≤ 500
  unfolding shape_for
  few = (allowed_most l (settings_operations p l settings)).1

  terms_fit : ((i : ℕ) → get_or (t ++ drop (words_needed s) table) i 0 < 2 ^ 32) → All Fits ts
  unfolding terms play_all
  terms_fit words =
      gathered g.answers
      (all_map g.answers (λ a f. f.value)
      (played_answers_fit s (tall_for p l) room rs (short_for p l) few (first_below (2 ^ 32) t (drop (words_needed s) table) (omega arith) words)))
      (root_operations s t)

  pub desk_order : ((i : ℕ) → get_or (desk p l licensed records table output).table i 0 < 2 ^ 32)
      → DeliversInOrder p l (step_records records) (desk p l licensed records table output).table (desk p l licensed records table output).count (desk p l licensed records table output).output
  desk_order words =
      rw (all_sent, words_back, sent_back ts (drop (term_size * length ts) output) (terms_fit (subst (λ (x : DeskResult). (i : ℕ) → get_or x.table i 0 < 2 ^ 32) all_sent words)))
      in_order_lem
