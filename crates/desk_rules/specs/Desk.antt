-- The delivery desk: the terms received by finished takes, in root order of the takes.
use Rattle.std.specs.Prelude.{ℕ, ◌*◌, not, ◌&&◌, length, drop, ltb, if◌then◌else◌, Ok, Err}
use mathlib.Core.List.{List, [], ◌∷◌, ◌++◌, foldl, flat_map}
use Rattle.record.specs.declared.StepRecord.{StepRecord}
use Rattle.record.specs.declared.Reply.{Reply}
use Rattle.record.specs.declared.Reply.TheVariants.{Done, Value, Nothing}
use Rattle.record.specs.declared.AnswerRecord.{AnswerRecord}
use Rattle.record.specs.StepRecords.{step_records}
use Rattle.record.specs.AnswerRecords.{answer_size}
use Rattle.tree.specs.Shape.{Shape, shape_for}
use Rattle.tree.specs.Layout.{words_needed}
use Rattle.tree.specs.Order.{root_operations}
use Rattle.calls.specs.Refusals.{accepted}
use Rattle.calls.specs.Run.{Played, at_start, play_record}
use Rattle.calls.specs.Linearizable.{response}
use Rattle.desk_rules.specs.declared.DeskRefusal.TheVariants.{ForeignEntry, OutputShort}
use Rattle.desk_rules.specs.Entries.{is_entry, term_of, is_foreign, term_size, term_bytes}
use Rattle.desk_rules.specs.DeskRefusals.{desk_number, DeskAcceptance, delivers, by_queue, first_desk_refusal, desk_call_refusal}

-- ---- the list

-- a list at the desk so far: the run of the records taken, and the refusal that ended it, if one did
pub record Served : Type 0 where
  pub run : Played
  pub refusal : DeskAcceptance

-- what the queue makes of its records
unfoldable pub served : Played → Served
served g = record { run = g; refusal = by_queue g.refusal }

-- one record, where there are `room` answer bytes in all: the queue's tests, then 14 for a foreign entry; a refused
-- record changes nothing and ends the list
unfoldable pub serve_record : Shape → ℕ → ℕ → Served → StepRecord → Served
serve_record s room licensed d r =
    let g = play_record s room d.run r in
    if not (delivers d.refusal) then d
    else (if accepted g.refusal && is_foreign licensed r then record { run = d.run; refusal = Err ForeignEntry }
    else served g)

-- with room for the answer of each record, as in listing the order: never 9
unfoldable pub serve : Shape → ℕ → List StepRecord → Served
serve s licensed rs = foldl (serve_record s (answer_size * length rs) licensed) (served (at_start s)) rs

-- ---- the terms

-- the term that a reply gives, if it is an entry
unfoldable pub term_in : Reply → List ℕ
term_in Done = []
term_in (Value v) = if is_entry v then term_of v ∷ [] else []
term_in Nothing = []

-- the terms received by finished takes, in root order of the takes: an operation without an answer record, as one that
-- has not finished, responds with none here and gives no term
unfoldable pub terms : Shape → List AnswerRecord → List ℕ → List ℕ
terms s log t = flat_map (λ x. term_in (response log x)) (root_operations s t)

-- ---- the call

-- what the call returns (the paper's number of the refusal, the number of terms), and all that it leaves in the work
-- table and in the output
pub record DeskResult : Type 0 where
  pub refusal : ℕ
  pub count : ℕ
  pub table : List ℕ
  pub output : List ℕ

-- a refused list sends no terms; output bytes past the terms keep their content
unfoldable pub sent : DeskAcceptance → List ℕ → List ℕ → List ℕ → DeskResult
sent (Ok passed) ts table output =
    record { refusal = 0; count = length ts; table = table; output = term_bytes ts ++ drop (term_size * length ts) output }
sent (Err why) ts table output = record { refusal = desk_number why; count = 0; table = table; output = output }

-- 10 if the terms exceed the output
unfoldable pub output_refusal : List ℕ → ℕ → DeskAcceptance
output_refusal ts output = if ltb output (term_size * length ts) then Err OutputShort else Ok tt

-- the work table is as Run leaves it
unfoldable pub desk_served : Shape → Served → List ℕ → List ℕ → DeskResult
desk_served s d table output =
    let t = d.run.machine.memory.table in
    let ts = terms s d.run.answers t in
    sent (first_desk_refusal d.refusal (output_refusal ts (length output))) ts (t ++ drop (words_needed s) table) output

-- the desk takes p, L, the licensed process, step records, work table, output
unfoldable pub desk : ℕ → ℕ → ℕ → List ℕ → List ℕ → List ℕ → DeskResult
desk p l licensed records table output =
    let n = desk_call_refusal p l licensed (length table) (length records) in
    let s = shape_for p l in
    if delivers n then desk_served s (serve s licensed (step_records records)) table output else sent n [] table output
