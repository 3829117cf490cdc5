use Rattle.dataplane.proofs.QueueBounds.{within}
use Rattle.dataplane.proofs.QueueCounts.{dropped, refused}
use Rattle.dataplane.proofs.QueueOrder.{in_order, subsequence}
use Rattle.dataplane.proofs.holding.laws.every_list_of_calls.Goals as goal

pub returns-clause-in_order : goal.returns-clause-in_order
returns-clause-in_order g c = in_order

pub returns-clause-subsequence : goal.returns-clause-subsequence
returns-clause-subsequence g c = subsequence

pub returns-clause-dropped : goal.returns-clause-dropped
returns-clause-dropped g c = dropped

pub returns-clause-refused : goal.returns-clause-refused
returns-clause-refused g c = refused

pub returns-clause-within : goal.returns-clause-within
returns-clause-within g c = within
