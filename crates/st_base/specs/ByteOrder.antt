-- A byte order, as the test that the layouts take.
use Rattle.std.specs.Prelude.{Bool, true, false}
use Rattle.st_base.specs.declared.order.Order.{Order}
use Rattle.st_base.specs.declared.order.Order.TheVariants.{Little, Big}

-- the most significant byte of a number comes first
abbrev pub is_big : Order → Bool
is_big Little = false
is_big Big = true

-- the order whose test this is
abbrev pub order_of : Bool → Order
order_of false = Little
order_of true = Big
