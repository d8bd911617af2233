-- `deliver::deliver_plain` meets its contract.
use Prim.Native.Nat.{ℕ}
use mathlib.Core.Path.{◌≡◌, sym}
use lib.ListN.{replicate, length-replicate}
use lib.Seq.{length-take-le}
use borrow.Author.Rules.{rules}
use Rattle.std.specs.Prelude.{Err}
use Rattle.desk_rules.specs.declared.DeskRefusal.TheVariants.{Queue}
use Rattle.desk.proofs.Listing.{ListedBy, plain_down, within_here, listed_here, listed_desk}
use Rattle.desk.proofs.deliver.deliver_plain.Goals.{After-otq_list_order-listed}
use Rattle.desk.proofs.deliver.deliver_plain.Goals as goal

-- the list
abbrev IsListed : After-otq_list_order-listed → Type 0
IsListed c = let last = c.otq_list_order-listed.new in
    ListedBy c.args.p c.args.l c.args.licensed c.args.records.now c.args.table.now (replicate 32000 0) c.otq_list_order-listed.result last.table
    last.output

listed_at : (c : After-otq_list_order-listed) → IsListed c
listed_at c = record { allowed = c.requires.0; room = length-replicate {A = ℕ} 32000 0; left = c.otq_list_order-listed.ensures }

pub returns-in_err-accepted : goal.returns-in_err-accepted
returns-in_err-accepted c =
    let is : c.from_residual.result ≡ Err (Queue c.otq_list_order-listed.result.refusal) = search rules in
    rw is (plain_down (listed_at (goal.at.returns-in_err-accepted c).After-otq_list_order-listed) c.in_err-accepted.ensures.0 c.requires.1 _)

pub slice_bounds-order-end : goal.slice_bounds-order-end
slice_bounds-order-end c = within_here (listed_at (goal.at.slice_bounds-order-end c).After-otq_list_order-listed) c.in_ok-accepted.ensures

pub slice_bounds-deliver_listed-end : goal.slice_bounds-deliver_listed-end
slice_bounds-deliver_listed-end c = sym (length-take-le _ _ (within_here (listed_at (goal.at.slice_bounds-deliver_listed-end c).After-otq_list_order-listed) c.in_ok-accepted.ensures))

pub deliver_listed-requires : goal.deliver_listed-requires
deliver_listed-requires c =
    listed_here (listed_at (goal.at.deliver_listed-requires c).After-otq_list_order-listed) c.in_ok-accepted.ensures c.otq_list_order-listed.auto.table

pub returns : goal.returns
returns c =
    listed_desk (listed_at (goal.at.returns c).After-otq_list_order-listed) c.in_ok-accepted.ensures c.requires.1 _ _ c.deliver_listed.ensures
