-- `layout::Layout::span` meets its contract.
use Prim.Native.Nat.{◌+◌}
use native.Mathlib.Omega.{arith}
use mathlib.Core.Path.{◌∙◌}
use Rattle.tree.proofs.NodeParts.{next_start}
use Rattle.table.proofs.Rest.{rest_needed}
use Rattle.table.proofs.layout.Layout.span.Goals as goal

pub returns : goal.returns
returns c =
    let i = c.self.invariant in
    let s = c.self.inside.tree in
    let v = c.args.v in
    rw (← c.self.view_is) record {
      start = λ h. i.nodes v (omega arith);
      end = λ h. i.nodes (v + 1) (omega arith) ∙ next_start s v;
      lacking = λ h. (rest_needed s _ i v h (omega arith), rest_needed s _ i (v + 1) (omega arith) (omega arith));
    }
