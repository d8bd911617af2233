-- History only grows, as callers of the exported calls have it: of two calls that return 0, the second on the first's
-- records and more, by nothing but what each promises.
use Prim.Native.Nat.{ℕ}
use mathlib.Core.Path.{◌≡◌, ap, sym, ◌∙◌}
use mathlib.Core.List.{List, ◌++◌}
use lib.ListN.{take}
use Rattle.base.specs.Beginning.{IsBeginning}
use Rattle.tree.specs.Layout.{words_needed}
use Rattle.tree.specs.Order.{root_order}
use Rattle.tree.specs.Shape.{shape_for}
use Rattle.calls.specs.Run.{RunResult, run}
use Rattle.calls.specs.ListOrder.{ListResult, list_order}
use Rattle.calls.specs.Continuation.{order_left, list_written}
use Rattle.calls.proofs.HistoryGrows.{history_grows}
use Rattle.queue.specs.declared.OtqRun.{OtqRun}
use Rattle.queue.specs.declared.OtqList.{OtqList}
use Rattle.queue.specs.Exported.{run_exported, list_exported}

-- each call is lent buffers of its own, a table and answer or output bytes
module _ (p l : ℕ) (records more words bytes words' bytes' : List ℕ) where
  -- the root order in the table that otq_run left
  pub exported_runs_grow : (r r' : OtqRun) (table answers table' answers' : List ℕ) → run_exported r table answers ≡ run p l records words bytes
      → run_exported r' table' answers' ≡ run p l (records ++ more) words' bytes' → r.refusal ≡ 0 → r'.refusal ≡ 0
      → IsBeginning (root_order (shape_for p l) (take (words_needed (shape_for p l)) table)) (root_order (shape_for p l) (take (words_needed (shape_for p l)) table'))
  unfolding run_exported order_left
  exported_runs_grow r r' table answers table' answers' e e' z z' =
      let told : RunResult → ℕ = λ x. x.refusal in
      let words_of : RunResult → List ℕ = λ x. x.table in
      rw (ap words_of e, ap words_of e') ((history_grows p l records more).order words bytes words' bytes' (sym (ap told e) ∙ z) (sym (ap told e') ∙ z'))

  -- the bytes that otq_list_order wrote
  pub exported_lists_grow : (r r' : OtqList) (table output table' output' : List ℕ) → list_exported r table output ≡ list_order p l records words bytes
      → list_exported r' table' output' ≡ list_order p l (records ++ more) words' bytes' → r.refusal ≡ 0 → r'.refusal ≡ 0
      → IsBeginning (take r.length output) (take r'.length output')
  unfolding list_exported list_written
  exported_lists_grow r r' table output table' output' e e' z z' =
      let told : ListResult → ℕ = λ x. x.refusal in
      let size : ListResult → ℕ = λ x. x.length in
      let written : ListResult → List ℕ = λ x. x.output in
      rw (ap size e, ap written e, ap size e', ap written e')
      ((history_grows p l records more).list words bytes words' bytes' (sym (ap told e) ∙ z) (sym (ap told e') ∙ z'))
