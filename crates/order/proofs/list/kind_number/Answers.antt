-- `list::kind_number` meets its contract. By cases.
use Rattle.order.specs.OrderList.{kind_number}
use Rattle.order.proofs.list.kind_number.Goals as goal

pub returns-in-Puts : goal.returns-in-Puts
unfolding kind_number
returns-in-Puts c = rw c.in-Puts.is

pub returns-in-Takes : goal.returns-in-Takes
unfolding kind_number
returns-in-Takes c = rw c.in-Takes.is
