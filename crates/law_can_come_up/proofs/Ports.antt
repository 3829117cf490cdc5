-- What one system with one port does, tick by tick, and as it sends and takes LACPDUs.
use Rattle.std.proofs.Common.{Bool, List, Ok, Some, [], ap, arith, false, inl, inr, refl, suc, true, zero, ℕ, ◌&&◌, ◌-◌, ◌<◌, ◌==◌, ◌∷◌, ◌≡◌}
use Rattle.std.proofs.lemmas.Bool.{and_parts, false≢true}
use Rattle.std.proofs.lemmas.Bool.Decides.{nat_tests}
use Rattle.std.specs.Prelude.{nat_lt}
use Rattle.std.specs.List.{list_all}
use Rattle.lagtypes.specs.declared.identifiers.SystemId.{SystemId}
use Rattle.lagtypes.specs.declared.party.Choice.TheVariants.{Selected}
use Rattle.lagtypes.specs.States.{has_bit}
use Rattle.slowpdu.specs.declared.pdu.Info.{Info}
use Rattle.slowpdu.specs.declared.pdu.Lacpdu.{Lacpdu}
use Rattle.slowpdu.specs.declared.pdu.Pdu.TheVariants as pdu
use Rattle.slowpdu.specs.Frames.{frame_octets}
use Rattle.slowpdu.specs.Layout.{AreOctets}
use Rattle.slowpdu.specs.Lacpdus.{Writes}
use Rattle.slowpdu.specs.Writing.{InfoFits}
use Rattle.slowpdu.proofs.EncodeLemmas.{encoded, written}
use Rattle.slowpdu.proofs.PduLemmas.{written_length, written_pdu}
use Rattle.portmachines.specs.declared.mux.MuxState.{MuxState}
use Rattle.portmachines.specs.declared.mux.MuxState.TheVariants.{Attached, CollectingDistributing, Waiting}
use Rattle.portmachines.specs.declared.periodic.PeriodicState.TheVariants.{PeriodicTx, Slow}
use Rattle.portmachines.specs.declared.receive.ReceiveState.TheVariants.{Current}
use Rattle.portmachines.specs.Machines.{Machines}
use Rattle.portmachines.specs.Mux.{mux_rows}
use Rattle.portmachines.specs.Periodic.{periodic_rows}
use Rattle.portmachines.specs.Receive.{lacpdu_rows, receive_rows}
use Rattle.portmachines.specs.Rows.{AtRest, FiresIfEnabled}
use Rattle.portmachines.specs.Transmit.{actor_of, after_sending, aged, is_due, pdu_of}
use Rattle.lagsystem.specs.declared.drive.Reply.TheVariants as reply
use Rattle.lagsystem.specs.declared.received.Received.TheVariants.{TookLacpdu}
use Rattle.lagsystem.specs.declared.system_ports.SystemPort.{SystemPort}
use Rattle.lagsystem.specs.Calls.{Carries, IsFrame, Receive, Step, Tick, Transmit}
use Rattle.lagsystem.specs.Sending.{SendsLacpdu, TransmitsIf}
use Rattle.lagsystem.specs.Settling.{Settling, ready_of}
use Rattle.lagsystem.specs.Views.{views}
use Rattle.lagsystem.specs.State.{SystemState}
use Rattle.law_can_carry.proofs.Carrying.{ChoosesNothing, address, agg₁, key₁, lifted, own, port_with, settles, system, ticks_to}

-- a port on which nothing came since its link is up, with these ticks left
abbrev pub alone : SystemId → ℕ → ℕ → Machines
alone a c p = record (lifted a) { current_while = c; periodic_timer = p }

-- port 1 of a system, with this state octet
abbrev pub info : SystemId → ℕ → Info
info b n = record { system = b; key = record { 0 = 1 }; port = record { priority = 128; number = 1 }; state = record { 0 = n } }

-- a port that is CURRENT and SELECTED, and heard port 1 of system b in that state
abbrev pub going : SystemId → SystemId → ℕ → ℕ → ℕ → ℕ → MuxState → Bool → List ℕ → Machines
going a b n c p w m t ages = record {
  party = own a;
  active = true;
  short = false;
  enabled = true;
  receive = Current;
  current_while = c;
  partner = info b n;
  defaulted = false;
  expired = false;
  periodic = Slow;
  periodic_timer = p;
  mux = m;
  wait_while = w;
  choice = Selected agg₁;
  ntt = t;
  ages = ages;
}

-- ticks in which nothing else happens

alone_rests : (a : SystemId) (c p : ℕ) → (c == 0) ≡ false → AtRest receive_rows (alone a c p)
alone_rests a c p h = (refl, (refl, (refl, (h, (refl, tt)))))

alone_periodic : (a : SystemId) (c p : ℕ) → (p == 0) ≡ false → AtRest periodic_rows (alone a c p)
alone_periodic a c p h = grind (arith, nat_tests)

alone_chooses : (a : SystemId) (c p : ℕ) → ChoosesNothing (alone a c p)
alone_chooses a c p = (port_with (alone a c p) ∷ [], (port_with (alone a c p) ∷ [], refl, (0, refl, refl)), refl)

pub alone_ticks : (gives : ℕ → ℕ → ℕ → Type 0) (a : SystemId) (c p b q : ℕ) → b ≡ c - 1 → q ≡ p - 1 → (b == 0) ≡ false → (q == 0) ≡ false
    → Step gives (system a (alone a c p)) Tick reply.Tick (system a (alone a b q))
alone_ticks gives a c p b q eb eq hb hq = (
  system a (alone a b q),
  ticks_to a (alone a c p) (alone a b q) (0, (λ i. alone a (eb i) (eq i)), alone_rests a b q hb),
  settles a (alone a b q) (alone a b q) (alone a b q) (alone a b q) (refl, (refl, (refl, (refl, (refl, (refl, tt)))))) (alone_chooses a b q)
      (0, refl, (refl, (refl, (refl, (refl, (refl, (refl, tt)))))))
      (alone a b q, (0, refl, alone_periodic a b q hq), refl),
)

-- the 10th: an LACPDU is due
pub alone_due : (gives : ℕ → ℕ → ℕ → Type 0) (a : SystemId)
    → Step gives (system a (alone a 21 1)) Tick reply.Tick (system a (record (alone a 20 10) { ntt = true }))
alone_due gives a = (
  system a (alone a 20 0),
  ticks_to a (alone a 21 1) (alone a 20 0) (0, refl, alone_rests a 20 0 refl),
  settles a (alone a 20 0) (alone a 20 0) (alone a 20 0) (record (alone a 20 10) { ntt = true }) (refl, (refl, (refl, (refl, (refl, (refl, tt))))))
      (alone_chooses a 20 0) (0, refl, (refl, (refl, (refl, (refl, (refl, (refl, tt))))))) (
        record (alone a 20 10) { ntt = true },
        (
          2,
          (
            record (alone a 20 0) { periodic = PeriodicTx; ntt = true },
            (alone a 20 0, refl, inr (inr (inl (refl, refl)))),
            inr (inr (inr (inr (inr (inl (refl, refl)))))),
          ),
          (refl, (refl, (refl, (refl, (refl, (refl, (refl, tt))))))),
        ),
        refl,
      ),
)

pub going_rests : (a b : SystemId) (n c p w : ℕ) (m : MuxState) (t : Bool) (ages : List ℕ) → (c == 0) ≡ false → AtRest receive_rows (going a b n c p w m t ages)
going_rests a b n c p w m t ages h = (refl, (refl, (refl, (refl, (h, tt)))))

pub waiting_chooses : (a b : SystemId) (n c p w : ℕ) (t : Bool) (ages : List ℕ) → ChoosesNothing (going a b n c p w Waiting t ages)
waiting_chooses a b n c p w t ages =
    (port_with (going a b n c p w Waiting t ages) ∷ [], (port_with (going a b n c p w Waiting t ages) ∷ [], refl, (0, refl, refl)), refl)

pub attached_chooses : (a b : SystemId) (n c p w : ℕ) (t : Bool) (ages : List ℕ) → ChoosesNothing (going a b n c p w Attached t ages)
attached_chooses a b n c p w t ages =
    (port_with (going a b n c p w Attached t ages) ∷ [], (port_with (going a b n c p w Attached t ages) ∷ [], refl, (0, refl, refl)), refl)

pub up_chooses : (a b : SystemId) (n c p w : ℕ) (t : Bool) (ages : List ℕ) → ChoosesNothing (going a b n c p w CollectingDistributing t ages)
up_chooses a b n c p w t ages = (
  port_with (going a b n c p w CollectingDistributing t ages) ∷ [],
  (port_with (going a b n c p w CollectingDistributing t ages) ∷ [], refl, (0, refl, refl)),
  refl,
)

pub waiting_unready : (a b : SystemId) (n c p w : ℕ) (t : Bool) (ages : List ℕ) → (w == 0) ≡ false
    → AtRest (mux_rows (ready_of (key₁ ∷ []) (views (port_with (going a b n c p w Waiting t ages) ∷ [])) (Selected agg₁))) (going a b n c p w Waiting t ages)
waiting_unready a b n c p w t ages h = (refl, (refl, (ap (λ (x : Bool). x && true) h, (refl, (refl, (refl, tt))))))

going_periodic : (a b : SystemId) (n c p w : ℕ) (m : MuxState) (t : Bool) (ages : List ℕ) → (p == 0) ≡ false → has_bit (record { 0 = n }) 2 ≡ false
    → AtRest periodic_rows (going a b n c p w m t ages)
going_periodic a b n c p w m t ages h long = grind (arith, nat_tests)

pub waiting_ticks : (gives : ℕ → ℕ → ℕ → Type 0) (a b : SystemId) (n c p w c' p' w' : ℕ) (t : Bool) (ages : List ℕ) → has_bit (record { 0 = n }) 2 ≡ false
    → c' ≡ c - 1 → p' ≡ p - 1 → w' ≡ w - 1 → (c' == 0) ≡ false → (p' == 0) ≡ false → (w' == 0) ≡ false
    → Step gives (system a (going a b n c p w Waiting t ages)) Tick reply.Tick (system a (going a b n c' p' w' Waiting t (aged ages)))
waiting_ticks gives a b n c p w c' p' w' t ages long ec ep ew hc hp hw =
    let x = going a b n c' p' w' Waiting t (aged ages) in (
      system a x,
      ticks_to a (going a b n c p w Waiting t ages) x
          (0, (λ i. going a b n (ec i) (ep i) (ew i) Waiting t (aged ages)), going_rests a b n c' p' w' Waiting t (aged ages) hc),
      settles a x x x x (refl, (refl, (refl, (refl, (refl, (refl, tt)))))) (waiting_chooses a b n c' p' w' t (aged ages))
          (0, refl, waiting_unready a b n c' p' w' t (aged ages) hw)
          (x, (0, refl, going_periodic a b n c' p' w' Waiting t (aged ages) hp long), refl),
    )

-- the 20th of these ticks: it is attached
pub attaches : (gives : ℕ → ℕ → ℕ → Type 0) (a b : SystemId) (ages : List ℕ)
    → Step gives (system a (going a b 5 882 281 1 Waiting false ages)) Tick reply.Tick (system a (going a b 5 881 280 0 Attached true (aged ages)))
attaches gives a b ages =
    let x = going a b 5 881 280 0 Waiting false (aged ages) in
    let y = going a b 5 881 280 0 Attached true (aged ages) in (
      system a x,
      ticks_to a (going a b 5 882 281 1 Waiting false ages) x (0, refl, going_rests a b 5 881 280 0 Waiting false (aged ages) refl),
      settles a x x y y (refl, (refl, (refl, (refl, (refl, (refl, tt)))))) (waiting_chooses a b 5 881 280 0 false (aged ages))
          (1, (x, refl, inr (inr (inl (refl, refl)))), (refl, (refl, (refl, (refl, (refl, (refl, tt)))))))
          (y, (0, refl, (refl, (refl, (refl, (refl, (refl, (refl, (refl, tt)))))))), refl),
    )

pub up_ticks_13 : (gives : ℕ → ℕ → ℕ → Type 0) (a b : SystemId) (c p c' p' : ℕ) (t : Bool) (ages : List ℕ)
    → c' ≡ c - 1 → p' ≡ p - 1 → (c' == 0) ≡ false → (p' == 0) ≡ false
    → Step gives (system a (going a b 13 c p 0 CollectingDistributing t ages)) Tick reply.Tick
    (system a (going a b 13 c' p' 0 CollectingDistributing t (aged ages)))
up_ticks_13 gives a b c p c' p' t ages ec ep hc hp =
    let x = going a b 13 c' p' 0 CollectingDistributing t (aged ages) in (
      system a x,
      ticks_to a (going a b 13 c p 0 CollectingDistributing t ages) x
          (0, (λ i. going a b 13 (ec i) (ep i) 0 CollectingDistributing t (aged ages)), going_rests a b 13 c' p' 0 CollectingDistributing t (aged ages) hc),
      settles a x x x x (refl, (refl, (refl, (refl, (refl, (refl, tt)))))) (up_chooses a b 13 c' p' 0 t (aged ages))
          (0, refl, (refl, (refl, (refl, (refl, (refl, (refl, tt)))))))
          (x, (0, refl, going_periodic a b 13 c' p' 0 CollectingDistributing t (aged ages) hp refl), refl),
    )

pub up_ticks_61 : (gives : ℕ → ℕ → ℕ → Type 0) (a b : SystemId) (c p c' p' : ℕ) (t : Bool) (ages : List ℕ)
    → c' ≡ c - 1 → p' ≡ p - 1 → (c' == 0) ≡ false → (p' == 0) ≡ false
    → Step gives (system a (going a b 61 c p 0 CollectingDistributing t ages)) Tick reply.Tick
    (system a (going a b 61 c' p' 0 CollectingDistributing t (aged ages)))
up_ticks_61 gives a b c p c' p' t ages ec ep hc hp =
    let x = going a b 61 c' p' 0 CollectingDistributing t (aged ages) in (
      system a x,
      ticks_to a (going a b 61 c p 0 CollectingDistributing t ages) x
          (0, (λ i. going a b 61 (ec i) (ep i) 0 CollectingDistributing t (aged ages)), going_rests a b 61 c' p' 0 CollectingDistributing t (aged ages) hc),
      settles a x x x x (refl, (refl, (refl, (refl, (refl, (refl, tt)))))) (up_chooses a b 61 c' p' 0 t (aged ages))
          (0, refl, (refl, (refl, (refl, (refl, (refl, (refl, tt)))))))
          (x, (0, refl, going_periodic a b 61 c' p' 0 CollectingDistributing t (aged ages) hp refl), refl),
    )

-- after 300 ticks an LACPDU is due
pub up_due : (gives : ℕ → ℕ → ℕ → Type 0) (a b : SystemId) (ages : List ℕ)
    → Step gives (system a (going a b 61 622 1 0 CollectingDistributing false ages)) Tick reply.Tick
    (system a (going a b 61 621 300 0 CollectingDistributing true (aged ages)))
up_due gives a b ages =
    let x = going a b 61 621 0 0 CollectingDistributing false (aged ages) in
    let y = going a b 61 621 300 0 CollectingDistributing true (aged ages) in (
      system a x,
      ticks_to a (going a b 61 622 1 0 CollectingDistributing false ages) x (0, refl, going_rests a b 61 621 0 0 CollectingDistributing false (aged ages) refl),
      settles a x x x y (refl, (refl, (refl, (refl, (refl, (refl, tt)))))) (up_chooses a b 61 621 0 0 false (aged ages))
          (0, refl, (refl, (refl, (refl, (refl, (refl, (refl, tt))))))) (
            y,
            (
              2,
              (
                record x { periodic = PeriodicTx; ntt = true },
                (x, refl, inr (inr (inr (inr (inl (refl, refl)))))),
                inr (inr (inr (inr (inr (inr (inl (refl, refl))))))),
              ),
              (refl, (refl, (refl, (refl, (refl, (refl, (refl, tt))))))),
            ),
            refl,
          ),
    )

-- what a port sends

pub record Fits (m : Machines) : Type 0 where
  pub actor : InfoFits (actor_of m)
  pub partner : InfoFits m.partner
  pub octets : AreOctets (encoded (pdu_of m 0))

below : (x : ℕ) → nat_lt x 256 ≡ true → x < 256
below x h = grind (arith, nat_tests)

pub all_octets : (l : List ℕ) → list_all (λ x. nat_lt x 256) l ≡ true → AreOctets l
all_octets [] h i = omega arith
all_octets (x ∷ xs) h zero = below x (and_parts (nat_lt x 256) (list_all (λ x. nat_lt x 256) xs) h).0
all_octets (x ∷ xs) h (suc i) = all_octets xs (and_parts (nat_lt x 256) (list_all (λ x. nat_lt x 256) xs) h).1 i

abbrev pub frame_of : Machines → List ℕ
frame_of m = frame_octets (2 ∷ 0 ∷ 0 ∷ 0 ∷ 0 ∷ 17 ∷ []) (encoded (pdu_of m 0))

writes_it : (m : Machines) → Fits m → Writes (encoded (pdu_of m 0)) (pdu_of m 0)
writes_it m f = written (pdu_of m 0) (encoded (pdu_of m 0)) refl f.actor f.partner (omega arith) f.octets

sends : (e d : Bool) (x : SystemPort) (s : SystemState) (o : List ℕ) (t : SystemState) → e ≡ true → d ≡ true → SendsLacpdu 0 x s (Some o) t
    → TransmitsIf e d 0 x s (Some o) t
sends true true x s o t he hd h = h
sends true false x s o t he hd h = absurd (false≢true hd)
sends false d x s o t he hd h = absurd (false≢true he)

pub emits : (gives : ℕ → ℕ → ℕ → Type 0) (a : SystemId) (m : Machines) → m.enabled ≡ true → is_due m ≡ true → Fits m
    → Step gives (system a m) (Transmit 1) (reply.Transmit (Ok (Some (frame_of m)))) (system a (after_sending m))
emits gives a m he hd f = (
  port_with m,
  refl,
  sends m.enabled (is_due m) (port_with m) (system a m) (frame_of m) (system a (after_sending m)) he hd
      (frame_of m, (encoded (pdu_of m 0), address 17 (omega arith), writes_it m f, refl), refl, refl),
)

pub reads_it : (m : Machines) → Fits m → IsFrame (frame_of m) (Carries (pdu.Lacpdu (pdu_of m 0)))
reads_it m f = (
  (omega (arith, written_length (encoded (pdu_of m 0)) (pdu.Lacpdu (pdu_of m 0)) (writes_it m f)), (refl, refl)),
  written_pdu (encoded (pdu_of m 0)) (pdu.Lacpdu (pdu_of m 0)) (writes_it m f),
)

-- and takes

pub takes : (gives : ℕ → ℕ → ℕ → Type 0) (a : SystemId) (p q r : Machines) (octets : List ℕ) (v : Lacpdu)
    → IsFrame octets (Carries (pdu.Lacpdu v)) → FiresIfEnabled (lacpdu_rows v) (record p { enabled = true }) q → Settling (system a q) (system a r)
    → Step gives (system a (record p { enabled = true })) (Receive 1 octets) (reply.Receive (Ok TookLacpdu)) (system a r)
takes gives a p q r octets v h fires settling = (
  port_with (record p { enabled = true }),
  _,
  refl,
  (Carries (pdu.Lacpdu v), h, refl),
  (refl, (system a q, ((port_with (record p { enabled = true }), q, refl, fires, refl), refl), settling)),
)
