-- `deliver::refuse_foreign` meets its contract.
use Prim.Native.Nat.{ℕ}
use lib.ListN.{replicate, length-replicate}
use mathlib.Core.Path.{◌≡◌}
use borrow.Author.Rules.{rules}
use Rattle.std.specs.Prelude.{Err}
use Rattle.desk_rules.specs.declared.DeskRefusal.TheVariants.{Queue}
use Rattle.desk.proofs.Listing.{ListedBy, foreign_down, foreign_14}
use Rattle.desk.proofs.deliver.refuse_foreign.Goals.{After-otq_list_order-listed}
use Rattle.desk.proofs.deliver.refuse_foreign.Goals as goal

-- the list
abbrev IsListed : After-otq_list_order-listed → Type 0
IsListed c = let last = c.otq_list_order-listed.new in
    ListedBy c.args.p c.args.l c.args.licensed c.args.records.now c.args.table.now (replicate 32000 0) c.otq_list_order-listed.result last.table
    last.output

listed_at : (c : After-otq_list_order-listed) → IsListed c
listed_at c = record { allowed = c.requires.0; room = length-replicate {A = ℕ} 32000 0; left = c.otq_list_order-listed.ensures }

pub returns-in_err-accepted : goal.returns-in_err-accepted
returns-in_err-accepted c =
    let is : c.from_residual.result ≡ Err (Queue c.otq_list_order-listed.result.refusal) = search rules in
    rw is (foreign_down (listed_at (goal.at.returns-in_err-accepted c).After-otq_list_order-listed) c.in_err-accepted.ensures.0 c.requires.1)

pub returns : goal.returns
returns c =
    foreign_14 (listed_at (goal.at.returns c).After-otq_list_order-listed) c.in_ok-accepted.ensures c.requires.1
