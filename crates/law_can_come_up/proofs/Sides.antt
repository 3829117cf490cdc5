-- What each of two systems does in the five rounds in which LACPDUs go: each of them stands for both sides, by numbers.
use Rattle.std.proofs.Common.{[], arith, false, inl, inr, refl, true, ℕ, ◌∷◌}
use Rattle.lagtypes.specs.declared.identifiers.SystemId.{SystemId}
use Rattle.lagtypes.specs.declared.party.Choice.TheVariants.{Selected}
use Rattle.portmachines.specs.declared.mux.MuxState.TheVariants.{Attached, CollectingDistributing, Waiting}
use Rattle.portmachines.specs.declared.receive.ReceiveState.TheVariants.{Current}
use Rattle.portmachines.specs.Machines.{Machines}
use Rattle.portmachines.specs.Transmit.{after_sending, pdu_of}
use Rattle.slowpdu.specs.Layout.{IsAddress}
use Rattle.slowpdu.proofs.EncodeLemmas.{encoded}
use Rattle.lagsystem.specs.Sound.{IsSound}
use Rattle.law_can_carry.proofs.Carrying.{address, agg₁, near, port_with, settles, settles_from, system}
use Rattle.law_can_come_up.proofs.Ports.{Fits, all_octets, alone, alone_due, attaches, emits, frame_of, going, info, reads_it, takes, up_chooses}
use Rattle.law_can_come_up.proofs.Ports.{up_due, up_ticks_13, waiting_chooses, waiting_ticks}
use Rattle.law_can_come_up.proofs.Worlds.{Does}

abbrev pub far : SystemId
far = record { priority = 100; mac = 2 ∷ 0 ∷ 0 ∷ 0 ∷ 0 ∷ 2 ∷ [] }

abbrev pub due : SystemId → Machines
due a = record (alone a 20 10) { ntt = true }

zeros : IsAddress (0 ∷ 0 ∷ 0 ∷ 0 ∷ 0 ∷ 0 ∷ [])
zeros = (refl, all_octets (0 ∷ 0 ∷ 0 ∷ 0 ∷ 0 ∷ 0 ∷ []) refl)

-- system near

fits_10_n : Fits (due near)
fits_10_n = record {
  actor = record { address = address 1 (omega arith); system_priority = omega arith; key = omega arith; port_priority = omega arith; port = omega arith };
  partner = record { address = zeros; system_priority = omega arith; key = omega arith; port_priority = omega arith; port = omega arith };
  octets = all_octets (encoded (pdu_of (due near) 0)) refl;
}

fits_11_n : Fits (going near far 197 899 299 19 Waiting true (1 ∷ []))
fits_11_n = record {
  actor = record { address = address 1 (omega arith); system_priority = omega arith; key = omega arith; port_priority = omega arith; port = omega arith };
  partner = record { address = address 2 (omega arith); system_priority = omega arith; key = omega arith; port_priority = omega arith; port = omega arith };
  octets = all_octets (encoded (pdu_of (going near far 197 899 299 19 Waiting true (1 ∷ [])) 0)) refl;
}

fits_30_n : Fits (going near far 5 881 280 0 Attached true [])
fits_30_n = record {
  actor = record { address = address 1 (omega arith); system_priority = omega arith; key = omega arith; port_priority = omega arith; port = omega arith };
  partner = record { address = address 2 (omega arith); system_priority = omega arith; key = omega arith; port_priority = omega arith; port = omega arith };
  octets = all_octets (encoded (pdu_of (going near far 5 881 280 0 Attached true []) 0)) refl;
}

fits_31_n : Fits (going near far 13 899 279 0 CollectingDistributing true (1 ∷ []))
fits_31_n = record {
  actor = record { address = address 1 (omega arith); system_priority = omega arith; key = omega arith; port_priority = omega arith; port = omega arith };
  partner = record { address = address 2 (omega arith); system_priority = omega arith; key = omega arith; port_priority = omega arith; port = omega arith };
  octets = all_octets (encoded (pdu_of (going near far 13 899 279 0 CollectingDistributing true (1 ∷ [])) 0)) refl;
}

fits_310_n : Fits (going near far 61 621 300 0 CollectingDistributing true [])
fits_310_n = record {
  actor = record { address = address 1 (omega arith); system_priority = omega arith; key = omega arith; port_priority = omega arith; port = omega arith };
  partner = record { address = address 2 (omega arith); system_priority = omega arith; key = omega arith; port_priority = omega arith; port = omega arith };
  octets = all_octets (encoded (pdu_of (going near far 61 621 300 0 CollectingDistributing true []) 0)) refl;
}

-- system far

fits_10_f : Fits (due far)
fits_10_f = record {
  actor = record { address = address 2 (omega arith); system_priority = omega arith; key = omega arith; port_priority = omega arith; port = omega arith };
  partner = record { address = zeros; system_priority = omega arith; key = omega arith; port_priority = omega arith; port = omega arith };
  octets = all_octets (encoded (pdu_of (due far) 0)) refl;
}

fits_11_f : Fits (going far near 197 899 299 19 Waiting true (1 ∷ []))
fits_11_f = record {
  actor = record { address = address 2 (omega arith); system_priority = omega arith; key = omega arith; port_priority = omega arith; port = omega arith };
  partner = record { address = address 1 (omega arith); system_priority = omega arith; key = omega arith; port_priority = omega arith; port = omega arith };
  octets = all_octets (encoded (pdu_of (going far near 197 899 299 19 Waiting true (1 ∷ [])) 0)) refl;
}

fits_30_f : Fits (going far near 5 881 280 0 Attached true [])
fits_30_f = record {
  actor = record { address = address 2 (omega arith); system_priority = omega arith; key = omega arith; port_priority = omega arith; port = omega arith };
  partner = record { address = address 1 (omega arith); system_priority = omega arith; key = omega arith; port_priority = omega arith; port = omega arith };
  octets = all_octets (encoded (pdu_of (going far near 5 881 280 0 Attached true []) 0)) refl;
}

fits_31_f : Fits (going far near 13 899 279 0 CollectingDistributing true (1 ∷ []))
fits_31_f = record {
  actor = record { address = address 2 (omega arith); system_priority = omega arith; key = omega arith; port_priority = omega arith; port = omega arith };
  partner = record { address = address 1 (omega arith); system_priority = omega arith; key = omega arith; port_priority = omega arith; port = omega arith };
  octets = all_octets (encoded (pdu_of (going far near 13 899 279 0 CollectingDistributing true (1 ∷ [])) 0)) refl;
}

fits_310_f : Fits (going far near 61 621 300 0 CollectingDistributing true [])
fits_310_f = record {
  actor = record { address = address 2 (omega arith); system_priority = omega arith; key = omega arith; port_priority = omega arith; port = omega arith };
  partner = record { address = address 1 (omega arith); system_priority = omega arith; key = omega arith; port_priority = omega arith; port = omega arith };
  octets = all_octets (encoded (pdu_of (going far near 61 621 300 0 CollectingDistributing true []) 0)) refl;
}

abbrev heard_n : Machines
heard_n = record (after_sending (due near)) {
  receive = Current;
  current_while = 900;
  partner = info far 197;
  defaulted = false;
  expired = false;
  ntt = true;
}

abbrev chose_n : Machines
chose_n = record heard_n { choice = Selected agg₁ }

abbrev waits_n : Machines
waits_n = record chose_n { mux = Waiting; wait_while = 20 }

pub round_10_n : (gives : ℕ → ℕ → ℕ → Type 0) → IsSound (system near (alone near 21 1))
    → Does gives (system near (alone near 21 1)) (system near (due near)) (system near (after_sending (due near)))
    (system near (going near far 197 900 300 20 Waiting true (0 ∷ []))) (frame_of (due near)) (frame_of (due far))
round_10_n gives s = record {
  sound = s;
  ticks = alone_due gives near;
  sends = emits gives near (due near) refl refl fits_10_n;
  takes = takes gives near (after_sending (due near)) heard_n (going near far 197 900 300 20 Waiting true (0 ∷ [])) (frame_of (due far)) (pdu_of (due far) 0)
      (reads_it (due far) fits_10_f) (inl (inl (refl, refl)))
      (settles near heard_n chose_n waits_n (going near far 197 900 300 20 Waiting true (0 ∷ [])) (refl, (refl, (refl, (refl, (refl, (refl, tt))))))
      (port_with heard_n ∷ [], (port_with heard_n ∷ [], refl, (0, refl, refl)), refl)
      (1, (chose_n, refl, inl (refl, refl)), (refl, (refl, (refl, (refl, (refl, (refl, tt)))))))
      (going near far 197 900 300 20 Waiting true (0 ∷ []), (1, (waits_n, refl, inr (inr (inr (inl (refl, refl))))), (refl, (refl, (refl, (refl, (refl, (refl, (refl, tt)))))))), refl));
  none = refl;
}

abbrev knows_n : Machines
knows_n = going near far 5 900 299 19 Waiting false (1 ∷ 0 ∷ [])

pub round_11_n : (gives : ℕ → ℕ → ℕ → Type 0) → IsSound (system near (going near far 197 900 300 20 Waiting true (0 ∷ [])))
    → Does gives (system near (going near far 197 900 300 20 Waiting true (0 ∷ []))) (system near (going near far 197 899 299 19 Waiting true (1 ∷ [])))
    (system near (going near far 197 899 299 19 Waiting false (1 ∷ 0 ∷ []))) (system near (going near far 5 900 299 19 Waiting false (1 ∷ 0 ∷ [])))
    (frame_of (going near far 197 899 299 19 Waiting true (1 ∷ []))) (frame_of (going far near 197 899 299 19 Waiting true (1 ∷ [])))
round_11_n gives s = record {
  sound = s;
  ticks = waiting_ticks gives near far 197 900 300 20 899 299 19 true (0 ∷ []) refl refl refl refl refl refl refl;
  sends = emits gives near (going near far 197 899 299 19 Waiting true (1 ∷ [])) refl refl fits_11_n;
  takes = takes gives near (going near far 197 899 299 19 Waiting false (1 ∷ 0 ∷ [])) knows_n knows_n (frame_of (going far near 197 899 299 19 Waiting true (1 ∷ [])))
      (pdu_of (going far near 197 899 299 19 Waiting true (1 ∷ [])) 0)
      (reads_it (going far near 197 899 299 19 Waiting true (1 ∷ [])) fits_11_f) (inl (inl (refl, refl)))
      (settles near knows_n knows_n knows_n knows_n (refl, (refl, (refl, (refl, (refl, (refl, tt)))))) (waiting_chooses near far 5 900 299 19 false (1 ∷ 0 ∷ []))
      (0, refl, (refl, (refl, (refl, (refl, (refl, (refl, tt))))))) (knows_n, (0, refl, (refl, (refl, (refl, (refl, (refl, (refl, (refl, tt)))))))), refl));
  none = refl;
}

abbrev joins_n : Machines
joins_n = going near far 13 900 280 0 Attached true (0 ∷ [])

abbrev up_n : Machines
up_n = going near far 13 900 280 0 CollectingDistributing true (0 ∷ [])

pub round_30_n : (gives : ℕ → ℕ → ℕ → Type 0) → IsSound (system near (going near far 5 882 281 1 Waiting false []))
    → Does gives (system near (going near far 5 882 281 1 Waiting false [])) (system near (going near far 5 881 280 0 Attached true []))
    (system near (going near far 5 881 280 0 Attached false (0 ∷ []))) (system near (going near far 13 900 280 0 CollectingDistributing true (0 ∷ [])))
    (frame_of (going near far 5 881 280 0 Attached true [])) (frame_of (going far near 5 881 280 0 Attached true []))
round_30_n gives s = record {
  sound = s;
  ticks = attaches gives near far [];
  sends = emits gives near (going near far 5 881 280 0 Attached true []) refl refl fits_30_n;
  takes = takes gives near (going near far 5 881 280 0 Attached false (0 ∷ [])) joins_n up_n (frame_of (going far near 5 881 280 0 Attached true []))
      (pdu_of (going far near 5 881 280 0 Attached true []) 0)
      (reads_it (going far near 5 881 280 0 Attached true []) fits_30_f) (inl (inl (refl, refl)))
      (settles_from near joins_n up_n up_n up_n up_n (1, (joins_n, refl, inr (inr (inr (inr (inl (refl, refl)))))), (refl, (refl, (refl, (refl, (refl, (refl, tt)))))))
      (up_chooses near far 13 900 280 0 true (0 ∷ [])) (0, refl, (refl, (refl, (refl, (refl, (refl, (refl, tt))))))) (up_n, (0, refl, (refl, (refl, (refl, (refl, (refl, (refl, (refl, tt)))))))), refl));
  none = refl;
}

abbrev both_up_n : Machines
both_up_n = going near far 61 900 279 0 CollectingDistributing false (1 ∷ 0 ∷ [])

pub round_31_n : (gives : ℕ → ℕ → ℕ → Type 0) → IsSound (system near (going near far 13 900 280 0 CollectingDistributing true (0 ∷ [])))
    → Does gives (system near (going near far 13 900 280 0 CollectingDistributing true (0 ∷ [])))
    (system near (going near far 13 899 279 0 CollectingDistributing true (1 ∷ [])))
    (system near (going near far 13 899 279 0 CollectingDistributing false (1 ∷ 0 ∷ [])))
    (system near (going near far 61 900 279 0 CollectingDistributing false (1 ∷ 0 ∷ [])))
    (frame_of (going near far 13 899 279 0 CollectingDistributing true (1 ∷ []))) (frame_of (going far near 13 899 279 0 CollectingDistributing true (1 ∷ [])))
round_31_n gives s = record {
  sound = s;
  ticks = up_ticks_13 gives near far 900 280 899 279 true (0 ∷ []) refl refl refl refl;
  sends = emits gives near (going near far 13 899 279 0 CollectingDistributing true (1 ∷ [])) refl refl fits_31_n;
  takes = takes gives near (going near far 13 899 279 0 CollectingDistributing false (1 ∷ 0 ∷ [])) both_up_n both_up_n
      (frame_of (going far near 13 899 279 0 CollectingDistributing true (1 ∷ []))) (pdu_of (going far near 13 899 279 0 CollectingDistributing true (1 ∷ [])) 0)
      (reads_it (going far near 13 899 279 0 CollectingDistributing true (1 ∷ [])) fits_31_f) (inl (inl (refl, refl)))
      (settles near both_up_n both_up_n both_up_n both_up_n (refl, (refl, (refl, (refl, (refl, (refl, tt)))))) (up_chooses near far 61 900 279 0 false (1 ∷ 0 ∷ []))
      (0, refl, (refl, (refl, (refl, (refl, (refl, (refl, tt))))))) (both_up_n, (0, refl, (refl, (refl, (refl, (refl, (refl, (refl, (refl, tt)))))))), refl));
  none = refl;
}

abbrev again_n : Machines
again_n = going near far 61 900 300 0 CollectingDistributing false (0 ∷ [])

pub round_310_n : (gives : ℕ → ℕ → ℕ → Type 0) → IsSound (system near (going near far 61 622 1 0 CollectingDistributing false []))
    → Does gives (system near (going near far 61 622 1 0 CollectingDistributing false [])) (system near (going near far 61 621 300 0 CollectingDistributing true []))
    (system near (going near far 61 621 300 0 CollectingDistributing false (0 ∷ []))) (system near (going near far 61 900 300 0 CollectingDistributing false (0 ∷ [])))
    (frame_of (going near far 61 621 300 0 CollectingDistributing true [])) (frame_of (going far near 61 621 300 0 CollectingDistributing true []))
round_310_n gives s = record {
  sound = s;
  ticks = up_due gives near far [];
  sends = emits gives near (going near far 61 621 300 0 CollectingDistributing true []) refl refl fits_310_n;
  takes = takes gives near (going near far 61 621 300 0 CollectingDistributing false (0 ∷ [])) again_n again_n
      (frame_of (going far near 61 621 300 0 CollectingDistributing true [])) (pdu_of (going far near 61 621 300 0 CollectingDistributing true []) 0)
      (reads_it (going far near 61 621 300 0 CollectingDistributing true []) fits_310_f) (inl (inl (refl, refl)))
      (settles near again_n again_n again_n again_n (refl, (refl, (refl, (refl, (refl, (refl, tt)))))) (up_chooses near far 61 900 300 0 false (0 ∷ []))
      (0, refl, (refl, (refl, (refl, (refl, (refl, (refl, tt))))))) (again_n, (0, refl, (refl, (refl, (refl, (refl, (refl, (refl, (refl, tt)))))))), refl));
  none = refl;
}

abbrev heard_f : Machines
heard_f = record (after_sending (due far)) {
  receive = Current;
  current_while = 900;
  partner = info near 197;
  defaulted = false;
  expired = false;
  ntt = true;
}

abbrev chose_f : Machines
chose_f = record heard_f { choice = Selected agg₁ }

abbrev waits_f : Machines
waits_f = record chose_f { mux = Waiting; wait_while = 20 }

pub round_10_f : (gives : ℕ → ℕ → ℕ → Type 0) → IsSound (system far (alone far 21 1))
    → Does gives (system far (alone far 21 1)) (system far (due far)) (system far (after_sending (due far)))
    (system far (going far near 197 900 300 20 Waiting true (0 ∷ []))) (frame_of (due far)) (frame_of (due near))
round_10_f gives s = record {
  sound = s;
  ticks = alone_due gives far;
  sends = emits gives far (due far) refl refl fits_10_f;
  takes = takes gives far (after_sending (due far)) heard_f (going far near 197 900 300 20 Waiting true (0 ∷ [])) (frame_of (due near)) (pdu_of (due near) 0)
      (reads_it (due near) fits_10_n) (inl (inl (refl, refl)))
      (settles far heard_f chose_f waits_f (going far near 197 900 300 20 Waiting true (0 ∷ [])) (refl, (refl, (refl, (refl, (refl, (refl, tt))))))
      (port_with heard_f ∷ [], (port_with heard_f ∷ [], refl, (0, refl, refl)), refl)
      (1, (chose_f, refl, inl (refl, refl)), (refl, (refl, (refl, (refl, (refl, (refl, tt)))))))
      (going far near 197 900 300 20 Waiting true (0 ∷ []), (1, (waits_f, refl, inr (inr (inr (inl (refl, refl))))), (refl, (refl, (refl, (refl, (refl, (refl, (refl, tt)))))))), refl));
  none = refl;
}

abbrev knows_f : Machines
knows_f = going far near 5 900 299 19 Waiting false (1 ∷ 0 ∷ [])

pub round_11_f : (gives : ℕ → ℕ → ℕ → Type 0) → IsSound (system far (going far near 197 900 300 20 Waiting true (0 ∷ [])))
    → Does gives (system far (going far near 197 900 300 20 Waiting true (0 ∷ []))) (system far (going far near 197 899 299 19 Waiting true (1 ∷ [])))
    (system far (going far near 197 899 299 19 Waiting false (1 ∷ 0 ∷ []))) (system far (going far near 5 900 299 19 Waiting false (1 ∷ 0 ∷ [])))
    (frame_of (going far near 197 899 299 19 Waiting true (1 ∷ []))) (frame_of (going near far 197 899 299 19 Waiting true (1 ∷ [])))
round_11_f gives s = record {
  sound = s;
  ticks = waiting_ticks gives far near 197 900 300 20 899 299 19 true (0 ∷ []) refl refl refl refl refl refl refl;
  sends = emits gives far (going far near 197 899 299 19 Waiting true (1 ∷ [])) refl refl fits_11_f;
  takes = takes gives far (going far near 197 899 299 19 Waiting false (1 ∷ 0 ∷ [])) knows_f knows_f (frame_of (going near far 197 899 299 19 Waiting true (1 ∷ [])))
      (pdu_of (going near far 197 899 299 19 Waiting true (1 ∷ [])) 0)
      (reads_it (going near far 197 899 299 19 Waiting true (1 ∷ [])) fits_11_n) (inl (inl (refl, refl)))
      (settles far knows_f knows_f knows_f knows_f (refl, (refl, (refl, (refl, (refl, (refl, tt)))))) (waiting_chooses far near 5 900 299 19 false (1 ∷ 0 ∷ []))
      (0, refl, (refl, (refl, (refl, (refl, (refl, (refl, tt))))))) (knows_f, (0, refl, (refl, (refl, (refl, (refl, (refl, (refl, (refl, tt)))))))), refl));
  none = refl;
}

abbrev joins_f : Machines
joins_f = going far near 13 900 280 0 Attached true (0 ∷ [])

abbrev up_f : Machines
up_f = going far near 13 900 280 0 CollectingDistributing true (0 ∷ [])

pub round_30_f : (gives : ℕ → ℕ → ℕ → Type 0) → IsSound (system far (going far near 5 882 281 1 Waiting false []))
    → Does gives (system far (going far near 5 882 281 1 Waiting false [])) (system far (going far near 5 881 280 0 Attached true []))
    (system far (going far near 5 881 280 0 Attached false (0 ∷ []))) (system far (going far near 13 900 280 0 CollectingDistributing true (0 ∷ [])))
    (frame_of (going far near 5 881 280 0 Attached true [])) (frame_of (going near far 5 881 280 0 Attached true []))
round_30_f gives s = record {
  sound = s;
  ticks = attaches gives far near [];
  sends = emits gives far (going far near 5 881 280 0 Attached true []) refl refl fits_30_f;
  takes = takes gives far (going far near 5 881 280 0 Attached false (0 ∷ [])) joins_f up_f (frame_of (going near far 5 881 280 0 Attached true []))
      (pdu_of (going near far 5 881 280 0 Attached true []) 0)
      (reads_it (going near far 5 881 280 0 Attached true []) fits_30_n) (inl (inl (refl, refl)))
      (settles_from far joins_f up_f up_f up_f up_f (1, (joins_f, refl, inr (inr (inr (inr (inl (refl, refl)))))), (refl, (refl, (refl, (refl, (refl, (refl, tt)))))))
      (up_chooses far near 13 900 280 0 true (0 ∷ [])) (0, refl, (refl, (refl, (refl, (refl, (refl, (refl, tt))))))) (up_f, (0, refl, (refl, (refl, (refl, (refl, (refl, (refl, (refl, tt)))))))), refl));
  none = refl;
}

abbrev both_up_f : Machines
both_up_f = going far near 61 900 279 0 CollectingDistributing false (1 ∷ 0 ∷ [])

pub round_31_f : (gives : ℕ → ℕ → ℕ → Type 0) → IsSound (system far (going far near 13 900 280 0 CollectingDistributing true (0 ∷ [])))
    → Does gives (system far (going far near 13 900 280 0 CollectingDistributing true (0 ∷ [])))
    (system far (going far near 13 899 279 0 CollectingDistributing true (1 ∷ [])))
    (system far (going far near 13 899 279 0 CollectingDistributing false (1 ∷ 0 ∷ [])))
    (system far (going far near 61 900 279 0 CollectingDistributing false (1 ∷ 0 ∷ [])))
    (frame_of (going far near 13 899 279 0 CollectingDistributing true (1 ∷ []))) (frame_of (going near far 13 899 279 0 CollectingDistributing true (1 ∷ [])))
round_31_f gives s = record {
  sound = s;
  ticks = up_ticks_13 gives far near 900 280 899 279 true (0 ∷ []) refl refl refl refl;
  sends = emits gives far (going far near 13 899 279 0 CollectingDistributing true (1 ∷ [])) refl refl fits_31_f;
  takes = takes gives far (going far near 13 899 279 0 CollectingDistributing false (1 ∷ 0 ∷ [])) both_up_f both_up_f
      (frame_of (going near far 13 899 279 0 CollectingDistributing true (1 ∷ []))) (pdu_of (going near far 13 899 279 0 CollectingDistributing true (1 ∷ [])) 0)
      (reads_it (going near far 13 899 279 0 CollectingDistributing true (1 ∷ [])) fits_31_n) (inl (inl (refl, refl)))
      (settles far both_up_f both_up_f both_up_f both_up_f (refl, (refl, (refl, (refl, (refl, (refl, tt)))))) (up_chooses far near 61 900 279 0 false (1 ∷ 0 ∷ []))
      (0, refl, (refl, (refl, (refl, (refl, (refl, (refl, tt))))))) (both_up_f, (0, refl, (refl, (refl, (refl, (refl, (refl, (refl, (refl, tt)))))))), refl));
  none = refl;
}

abbrev again_f : Machines
again_f = going far near 61 900 300 0 CollectingDistributing false (0 ∷ [])

pub round_310_f : (gives : ℕ → ℕ → ℕ → Type 0) → IsSound (system far (going far near 61 622 1 0 CollectingDistributing false []))
    → Does gives (system far (going far near 61 622 1 0 CollectingDistributing false [])) (system far (going far near 61 621 300 0 CollectingDistributing true []))
    (system far (going far near 61 621 300 0 CollectingDistributing false (0 ∷ []))) (system far (going far near 61 900 300 0 CollectingDistributing false (0 ∷ [])))
    (frame_of (going far near 61 621 300 0 CollectingDistributing true [])) (frame_of (going near far 61 621 300 0 CollectingDistributing true []))
round_310_f gives s = record {
  sound = s;
  ticks = up_due gives far near [];
  sends = emits gives far (going far near 61 621 300 0 CollectingDistributing true []) refl refl fits_310_f;
  takes = takes gives far (going far near 61 621 300 0 CollectingDistributing false (0 ∷ [])) again_f again_f
      (frame_of (going near far 61 621 300 0 CollectingDistributing true [])) (pdu_of (going near far 61 621 300 0 CollectingDistributing true []) 0)
      (reads_it (going near far 61 621 300 0 CollectingDistributing true []) fits_310_n) (inl (inl (refl, refl)))
      (settles far again_f again_f again_f again_f (refl, (refl, (refl, (refl, (refl, (refl, tt)))))) (up_chooses far near 61 900 300 0 false (0 ∷ []))
      (0, refl, (refl, (refl, (refl, (refl, (refl, (refl, tt))))))) (again_f, (0, refl, (refl, (refl, (refl, (refl, (refl, (refl, (refl, tt)))))))), refl));
  none = refl;
}
