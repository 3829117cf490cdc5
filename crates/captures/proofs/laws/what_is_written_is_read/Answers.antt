use Rattle.std.proofs.Common.{◌≡◌, ◌++◌, ℕ, List, [], None, arith}
use Rattle.std.proofs.lemmas.Grind.{common_steps}
use Rattle.captures.specs.declared.format.Format.TheVariants as formats
use Rattle.captures.specs.declared.link.LinkType.{LinkType}
use Rattle.captures.specs.declared.link.LinkType.TheVariants as links
use Rattle.captures.specs.declared.number.Order.{Order}
use Rattle.captures.specs.declared.number.Order.TheVariants.{Big, Little}
use Rattle.captures.specs.declared.time.Unit.{Unit}
use Rattle.captures.specs.declared.time.Unit.TheVariants.{Micro, Nano}
use Rattle.captures.specs.Steps.{step, taking}
use Rattle.captures.specs.Writing.{file_header}
use Rattle.captures.proofs.laws.what_is_written_is_read.Goals as goal

-- the header is read, in either order, unit and link type
header : (order : Order) (unit : Unit) (link : LinkType) (rest : List ℕ) → step (record { format = formats.Start; interfaces = [] })
    (file_header order unit link ++ rest) ≡ taking 24 None (formats.Packet order unit link) []
header Big Micro links.Ethernet rest = grind (arith, common_steps)
header Big Micro links.Cooked rest = grind (arith, common_steps)
header Big Micro links.Cooked2 rest = grind (arith, common_steps)
header Big Nano links.Ethernet rest = grind (arith, common_steps)
header Big Nano links.Cooked rest = grind (arith, common_steps)
header Big Nano links.Cooked2 rest = grind (arith, common_steps)
header Little Micro links.Ethernet rest = grind (arith, common_steps)
header Little Micro links.Cooked rest = grind (arith, common_steps)
header Little Micro links.Cooked2 rest = grind (arith, common_steps)
header Little Nano links.Ethernet rest = grind (arith, common_steps)
header Little Nano links.Cooked rest = grind (arith, common_steps)
header Little Nano links.Cooked2 rest = grind (arith, common_steps)

pub returns-clause-header : goal.returns-clause-header
returns-clause-header c = header
