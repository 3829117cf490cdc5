use Rattle.dataplane.proofs.Common.{[], arith, slice_index, subst, ◌++◌, ◌≡◌, at_places, queue, IsSubsequence, all_accepted, all_gone, all_sent}
use Rattle.dataplane.proofs.QueueOrder.{subsequence}
use Rattle.dataplane.proofs.Arriving.{all_places, each_place, fewer_places, in_turn}
use Rattle.dataplane.proofs.client_order.from_client_to_client.Goals as goal

pub returns : goal.returns
returns g c = λ calls h offered w s a k ordered counts never x.
    let got = w.collected s a k in
    let serials = w.sent s a k in
    let all : at_places offered serials ≡ offered = all_places [] offered serials x.each
    (λ i l. let at : slice_index serials i ≡ i = counts s a k i l in omega (arith, at)) in
    let arrived = subst (λ l. IsSubsequence (at_places offered got) l) all (fewer_places offered got serials (ordered s a k never)) in (
      each_place offered got serials (ordered s a k never)
          (λ i l. let at : slice_index serials i ≡ i = counts s a k i l in let each = x.each in omega (arith, at, l, each)),
      in_turn (at_places offered got) (all_sent (all_gone k calls h)) (queue h k ++ all_accepted k calls h)
          (in_turn (at_places offered got) offered (all_sent (all_gone k calls h)) arrived x.left) (subsequence calls h k),
    )
