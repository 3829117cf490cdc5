-- What Emit and Deliver events, and ticks, leave of a world with one cable.
use Rattle.lagprogress.proofs.Common.{Bool, Err, List, None, Ok, Option, Result, Some, [], ap, arith, cond, false, inl, inr, length, nat_lt, not}
use Rattle.lagprogress.proofs.Common.{refl, slice_get, subst, suc, sym, true, zero, ℕ, ◌++◌, ◌+◌, ◌<◌, ◌==◌, ◌∙◌, ◌∷◌, ◌≡◌, ◌≤◌, ◌⊎◌, cases_Bool}
use Rattle.lagprogress.proofs.Common.{nat_tests, position-Some, none-some, same_Some, AllByRecursion, position_or_len, StateBits, Lacpdu, Side, peer}
use Rattle.lagprogress.proofs.Common.{Machines, periodic_rows, AtRest, actor_of, after_sending, is_due, pdu_of, marker_due, Answer, SystemFault}
use Rattle.lagprogress.proofs.Common.{Received, SystemPort, Call, Carries, IsFrame, OnlyPortChangesBy, ProcessesLacpdu, Receive, ReceivesAt, Step}
use Rattle.lagprogress.proofs.Common.{ThenSettles, Transmit, configured_numbers, PeriodicIsSettled, IsLacpduOf, SendsMarkerOf, TransmitsAt}
use Rattle.lagprogress.proofs.Common.{TransmitsIf, CallPromise, SystemState, machines_of, port_index, port_numbers, named, processes_or_stays}
use Rattle.lagprogress.proofs.Common.{all-get, found_place, ports_rise, Event, Reply, Algorithms, WorldRuns, WorldSteps, side_of, ItemValue}
use Rattle.lagprogress.proofs.Common.{WorldState, half, towards, IsTimed, KeptBySettling, OfEach, Step-each, AtPort, at_number, calls_each}
use Rattle.lagprogress.proofs.Common.{same_ports}
use Rattle.slowpdu.specs.declared.pdu.Pdu.TheVariants as pdu
use Rattle.lagsystem.specs.declared.drive.Reply.TheVariants as answer
use Rattle.lagsystem.specs.declared.received.Received.TheVariants as received
use Rattle.lagscript.specs.declared.event.Event.TheVariants as event
use Rattle.lagprogress.proofs.EndFacts.{said_bits, Along, IsEnd, Suits, activity, end_settles, wait_of}
use Rattle.lagprogress.proofs.Halves.{AreTimely, each_is_calls, keeps_timely}
use Rattle.lagprogress.proofs.OneCable.{Asks, Beside, Elsewhere, Gains, OnCable, asks, emits, emits_beside, push, push_each, put, sent_frame, alone}
use Rattle.lagprogress.proofs.OneCable.{cable, port_there, towards_there}
use Rattle.lagprogress.proofs.Passing.{carries_one, lacpdu_is_sent, marker_carries_none, receives_lacpdu, sent_carries}
pub use Rattle.lagprogress.proofs.OneCable.{each_side}

-- the place of a port depends on the numbers alone

lens : (n : ℕ) (xs : List SystemPort) → position_or_len (λ (x : SystemPort). x.number == n) xs ≡ position_or_len (λ m. m == n) (port_numbers xs)
lens n [] = refl
lens n (x ∷ xs) = ap (λ k. cond (not (x.number == n)) (1 + k) 0) (lens n xs)

pub many : (xs : List SystemPort) → length xs ≡ length (port_numbers xs)
many [] = refl
many (x ∷ xs) = ap (λ k. suc k) (many xs)

abbrev place_in : ℕ → ℕ → Option ℕ
place_in i l = cond (nat_lt i l) (Some i) None

index_of : (n : ℕ) (xs : List SystemPort) → port_index n xs ≡ place_in (position_or_len (λ m. m == n) (port_numbers xs)) (length (port_numbers xs))
index_of n xs = ap (λ i. place_in i (length xs)) (lens n xs) ∙ ap (place_in (position_or_len (λ m. m == n) (port_numbers xs))) (many xs)

pub same_index : (n : ℕ) (xs ys : List SystemPort) → port_numbers ys ≡ port_numbers xs → port_index n ys ≡ port_index n xs
same_index n xs ys e = grind (arith, nat_tests, index_of, place_in, position_or_len)

pub place_kept : (gives : Algorithms) (e : Event) (r : Reply) (old new : WorldState) → WorldSteps gives old e r new → AreTimely old
    → AreTimely new → (s : Side) (n : ℕ) → port_index n (half s new).state.system_ports ≡ port_index n (half s old).state.system_ports
place_kept gives e r old new x a b s n = let g = each_is_calls gives e r old new x s in
    grind (arith, nat_tests, same_ports, half, same_index, configured_numbers)

-- what each event keeps that is so, a list of them keeps
pub runs_all : (gives : Algorithms) (Is : Event → Type 0) (M : WorldState → Type 0)
    → ((e : Event) (r : Reply) (old new : WorldState) → Is e → WorldSteps gives old e r new → M old → M new)
    → (es : List Event) (rs : List Reply) (old new : WorldState) → AllByRecursion Is es → WorldRuns gives old es rs new → M old → M new
runs_all gives Is M k [] [] old new a h m = subst M (sym h) m
runs_all gives Is M k (e ∷ es) (r ∷ rs) old new a h m = runs_all gives Is M k es rs h.0 new a.1 h.2 (k e r old h.0 a.0 h.1 m)
runs_all gives Is M k es rs old new a h m = absurd h

-- what each call of a system keeps, all events keep
pub events_each : (gives : Algorithms) (s : Side) (P : SystemState → Type 0)
    → ((old new : SystemState) (call : Call) (a : Answer) → Step (gives s) old call a new → P old → P new)
    → (es : List Event) (rs : List Reply) (old new : WorldState) → WorldRuns gives old es rs new → P (half s old).state → P (half s new).state
events_each gives s P k es rs old new h p = runs_all gives (λ e. Unit {0}) (λ j. P (half s j).state)
    (λ e r i j d step q. let c = each_is_calls gives e r i j step s in
    calls_each (gives s) P k (half s i).state (half s j).state c.0 c.1 c.2 q) es rs old new (any es) h p
  where
    any : (es : List Event) → AllByRecursion (λ (e : Event). Unit {0}) es
    any [] = tt
    any (e ∷ es) = (tt, any es)

-- items

-- one of the items is so
abbrev pub Has : (ItemValue → Type 0) → List ItemValue → Type 0
Has P [] = ⊥
Has P (x ∷ xs) = P x ⊎ Has P xs

pub has_on : (P : ItemValue → Type 0) (xs ys : List ItemValue) → Has P xs → Has P (xs ++ ys)
has_on P [] ys h = absurd h
has_on P (x ∷ xs) ys h = grind (arith, nat_tests, has_on P xs ys)

pub has_last : (P : ItemValue → Type 0) (xs : List ItemValue) (x : ItemValue) → P x → Has P (xs ++ x ∷ [])
has_last P [] x h = inl h
has_last P (y ∷ ys) x h = inr (has_last P ys x h)

-- the item is an LACPDU, and one of the items is one
abbrev pub HasLacpdu : ItemValue → Type 0
HasLacpdu item = (x : Lacpdu) × IsFrame item.octets (Carries (pdu.Lacpdu x))

abbrev pub Flying : List ItemValue → Type 0
Flying xs = Has HasLacpdu xs

-- of both sides

pub peer_twice : (s : Side) → peer (peer s) ≡ s
peer_twice s = grind (arith, nat_tests)

pub other_side : (s : Side) → peer s ≡ s → ⊥
other_side s e = grind (arith, nat_tests)

pub push_other : (s : Side) (item : ItemValue) (fl : Side → List ItemValue) → push (peer s) item fl s ≡ fl s
push_other s item fl = grind (arith, nat_tests)

pub push_there : (s : Side) (item : ItemValue) (fl : Side → List ItemValue) → push s item fl s ≡ fl s ++ item ∷ []
push_there s item fl = grind (arith, nat_tests)

pub put_there : (s : Side) (xs : List ItemValue) (fl : Side → List ItemValue) → put s xs fl s ≡ xs
put_there s xs fl = grind (arith, nat_tests)

pub put_other : (s : Side) (xs : List ItemValue) (fl : Side → List ItemValue) → put s xs fl (peer s) ≡ fl (peer s)
put_other s xs fl = grind (arith, nat_tests)

-- a property of lists that one more item keeps, at both sides
pub pushed : (P : Side → List ItemValue → Type 0) (s : Side) (item : ItemValue) (fl : Side → List ItemValue)
    → (P s (fl s) → P s (fl s ++ item ∷ [])) → ((t : Side) → P t (fl t)) → (t : Side) → P t (push s item fl t)
pushed P s item fl k a t = grind (arith, nat_tests)

-- what the frames of a port say

own_suits : (p : Machines) (dl d : ℕ) (v u : Lacpdu) (c : ℕ) → (2 ≤ d → 1 ≤ c) → IsEnd d v u c p → Suits d u v (pdu_of p dl)
own_suits p dl d v u c known a = let bits = said_bits p in grind (arith, nat_tests)

-- what a frame bears that a port sends
pub sent_is : (up due : Bool) (i : ℕ) (z : SystemPort) (old : SystemState) (frame : List ℕ) (new : SystemState)
    → TransmitsIf up due i z old (Some frame) new → (x : Lacpdu) → IsFrame frame (Carries (pdu.Lacpdu x)) → pdu_of z.port old.max_delay ≡ x
sent_is false due i z old frame new h x k = absurd (none-some frame (sym h.0))
sent_is true true i z old frame new h x k = let is : frame ≡ h.0 = same_Some frame h.0 h.2 in
    let sent = subst (IsLacpduOf old.max_delay z) (sym is) h.1 in
    carries_one frame x (pdu_of z.port old.max_delay) k
    (sent_carries frame (pdu.Lacpdu (pdu_of z.port old.max_delay)) (lacpdu_is_sent old.max_delay z frame sent))
sent_is true false i z old frame new h x k = by_marker (marker_due old.table z.number) h
  where
    by_marker : (o : Option ℕ) → SendsMarkerOf o z.number z.mac old (Some frame) new → pdu_of z.port old.max_delay ≡ x
    by_marker None m = absurd (none-some frame (sym m.0))
    by_marker (Some id) m = absurd (marker_carries_none frame x _ k (z.mac, m.0, m.1, m.2, same_Some frame _ m.3))

-- an arrival

pub is_took : (o : Received) → (o ≡ received.TookLacpdu) ⊎ (o ≡ received.TookLacpdu → ⊥)
is_took o = grind (arith, nat_tests)

-- the port processed the LACPDU that came, or what came is none and leaves the ports
abbrev pub Arrived : ℕ → List ℕ → SystemState → SystemState → Type 0
Arrived k octets old new =
    ((x : Lacpdu) × IsFrame octets (Carries (pdu.Lacpdu x)) × ThenSettles (OnlyPortChangesBy (Some k) (ProcessesLacpdu x)) old new)
    ⊎ (((x : Lacpdu) → IsFrame octets (Carries (pdu.Lacpdu x)) → ⊥) × (new.system_ports ≡ old.system_ports))

pub arrival : (gives : ℕ → ℕ → ℕ → Type 0) (n k : ℕ) (z : SystemPort) (octets : List ℕ) (o : Received) (old new : SystemState)
    → port_index n old.system_ports ≡ Some k → slice_get old.system_ports k ≡ Some z → z.port.enabled ≡ true
    → CallPromise gives old (Receive n octets) (answer.Receive (Ok o)) new → Arrived k octets old new
arrival gives n k z octets o old new place at up h = elim (is_took o) [
  | inl e ↦ (let m = (subst (λ a. CallPromise gives old (Receive n octets) (answer.Receive (Ok a)) new) e h).moves.3 in
      inl (m.0, m.1, (receives_lacpdu n k z octets m.0 old o new place at up m.1 h.step).1))
  | inr not ↦ inr (λ x c. not (receives_lacpdu n k z octets x old o new place at up c h.step).0, ports not h.step)
]
  where
    ports : (o ≡ received.TookLacpdu → ⊥) → ReceivesAt (port_index n old.system_ports) octets old o new → new.system_ports ≡ old.system_ports
    ports not s = elim (processes_or_stays s.1 s.0.number (port_index n old.system_ports) old o new s.4) [ inl x ↦ absurd (not x.1) | inr e ↦ e ]

pub found : (n : ℕ) (k : ℕ) (ports : List SystemPort) → port_index n ports ≡ Some k → (z : SystemPort) × (slice_get ports k ≡ Some z)
found n k [] e = absurd (none-some k e)
found n k (x ∷ xs) e = at k (x ∷ xs) (position-Some (λ (y : SystemPort). y.number == n) (x ∷ xs) k x e).0
  where
    at : (k : ℕ) (ports : List SystemPort) → k < length ports → (z : SystemPort) × (slice_get ports k ≡ Some z)
    at k [] l = absurd (omega (arith, l))
    at zero (x ∷ xs) l = (x, refl)
    at (suc k) (x ∷ xs) l = at k xs (omega (arith, l))

pub each_map : (P Q : ℕ → Machines → Type 0) → ((m : ℕ) (p : Machines) → P m p → Q m p) → (xs : List SystemPort) → OfEach P xs → OfEach Q xs
each_map P Q k [] a = tt
each_map P Q k (x ∷ xs) a = (k x.number x.port a.0, each_map P Q k xs a.1)

pub each_both : (P Q : ℕ → Machines → Type 0) → (xs : List SystemPort) → OfEach P xs → OfEach Q xs → OfEach (λ m p. P m p × Q m p) xs
each_both P Q [] a b = tt
each_both P Q (x ∷ xs) a b = ((a.0, b.0), each_both P Q xs a.1 b.1)

-- of the port with one number, two things and what follows from them
pub both_at : (n : ℕ) (P Q R : Machines → Type 0) → ((p : Machines) → P p → Q p → R p) → (xs : List SystemPort) → OfEach (AtPort n P) xs
    → OfEach (AtPort n Q) xs → OfEach (AtPort n R) xs
both_at n P Q R k xs a b = grind (arith, nat_tests, each_map, each_both)

pub timed_ends : (P : ℕ → Machines → Type 0) (xs : List SystemPort) → AllByRecursion PeriodicIsSettled xs
    → AllByRecursion (λ (x : SystemPort). IsTimed x.port) xs → OfEach P xs → OfEach (λ m p. P m p × AtRest periodic_rows p × IsTimed p) xs
timed_ends P [] a b c = tt
timed_ends P (x ∷ xs) a b c = ((c.0, a.0.rows, b.0), timed_ends P xs a.1 b.1 c.1)

-- the link

-- an item towards system t carries no LACPDU but one that suits
abbrev pub IsGood : ℕ → (Side → Lacpdu) → Side → ItemValue → Type 0
IsGood d w t item = (x : Lacpdu) → IsFrame item.octets (Carries (pdu.Lacpdu x)) → Suits d (w t) (w (peer t)) x

-- what is known fits the time that it is kept, and what comes
abbrev pub Fits : ℕ → (Side → Lacpdu) → (Side → ℕ) → Type 0
Fits d w c = (s : Side) → (c s ≤ wait_of (w s)) × (1 ≤ c s → 1 ≤ d) × (2 ≤ d → 1 ≤ c s)
    × (2 ≤ d → (activity (w (peer s)) ≡ true) ⊎ (activity (w s) ≡ true))

-- so is the port at an end, and one thing more at side x
abbrev pub EndIs : ℕ → (Side → Lacpdu) → (Side → ℕ) → Side → (Machines → Type 0) → Side → Machines → Type 0
EndIs d w c x Y s p = IsEnd d (w s) (w (peer s)) (c s) p × (s ≡ x → Y p)

pub record Link (d : ℕ) (at : Side → ℕ) (w : Side → Lacpdu) (c : Side → ℕ) (x : Side) (Y : Machines → Type 0) (j : WorldState) : Type 0 where
  pub steady : AreTimely j
  pub flying : Side → List ItemValue
  pub index : ℕ
  pub links : OnCable index at flying j.links
  pub good : (s : Side) → AllByRecursion (IsGood d w s) (flying s)
  pub place : (s : Side) → (k : ℕ) × (port_index (at s) (half s j).state.system_ports ≡ Some k)
  pub ports : (s : Side) → OfEach (AtPort (at s) (EndIs d w c x Y s)) (half s j).state.system_ports

-- the link, with something else known of the ports
pub with_ports : {d : ℕ} {at : Side → ℕ} {w : Side → Lacpdu} {c b : Side → ℕ} {x y : Side} {Y Z : Machines → Type 0} {j : WorldState}
    → Link d at w c x Y j → ((s : Side) → OfEach (AtPort (at s) (EndIs d w b y Z s)) (half s j).state.system_ports) → Link d at w b y Z j
with_ports l ports = grind (arith, nat_tests)

-- what is on one cable
pub same_items : (i k : ℕ) (at : Side → ℕ) (fl now : Side → List ItemValue) (j : WorldState) → OnCable i at fl j.links → OnCable k at now j.links
    → (t : Side) → now t ≡ fl t
same_items i k at fl now j c e t = let place : k ≡ i = alone t i k at fl j.links (cable at now) c e.there (port_there t at now) in
    grind (arith, nat_tests, cable, same_Some, slice_get, towards_there, towards)

-- so it is of two links
module _ {d e : ℕ} {at : Side → ℕ} {w v : Side → Lacpdu} {c b : Side → ℕ} {x y : Side} {Y Z : Machines → Type 0} {j : WorldState} where
  pub same_flying : (l : Link d at w c x Y j) → (k : Link e at v b y Z j) → (t : Side) → k.flying t ≡ l.flying t
  same_flying l k t = same_items l.index k.index at l.flying k.flying j l.links k.links t

-- what follows of the port at an end
pub of_end : {d : ℕ} {at : Side → ℕ} {w : Side → Lacpdu} {c : Side → ℕ} {x : Side} {Y : Machines → Type 0} {j : WorldState}
    (l : Link d at w c x Y j) (s : Side) (P : Machines → Type 0)
    → ((p : Machines) → AtRest periodic_rows p → IsTimed p → EndIs d w c x Y s p → P p)
    → OfEach (AtPort (at s) P) (half s j).state.system_ports
of_end {d} {at} {w} {c} {x} {Y} {j} l s P k =
    each_map (λ m p. AtPort (at s) (EndIs d w c x Y s) m p × AtRest periodic_rows p × IsTimed p) (AtPort (at s) P)
    (λ m p a e. k p a.1 a.2 (a.0 e)) (half s j).state.system_ports
    (timed_ends (AtPort (at s) (EndIs d w c x Y s)) (half s j).state.system_ports (l.steady s).0.quiet.1 (l.steady s).1 (l.ports s))

pub other_ports : {d : ℕ} {at : Side → ℕ} {w : Side → Lacpdu} {c b : Side → ℕ} {x y : Side} {Y Z : Machines → Type 0} {j : WorldState} → Link d at w c x Y j
    → ((s : Side) (p : Machines) → AtRest periodic_rows p → IsTimed p → EndIs d w c x Y s p → EndIs d w b y Z s p) → Link d at w b y Z j
other_ports {d} {at} {w} {c} {b} {x} {y} {Y} {Z} {j} l k = with_ports l (λ s. of_end l s (EndIs d w b y Z s) (k s))

pub machines_there : (n : ℕ) (s : SystemState) (k : ℕ) (z : SystemPort) → port_index n s.system_ports ≡ Some k
    → slice_get s.system_ports k ≡ Some z → machines_of n s ≡ Some z.port
machines_there n s k z e f = grind (arith, nat_tests)

module _ (at : Side → ℕ) (w : Side → Lacpdu) where
  -- the port at an end
  pub record EndPort (d : ℕ) (c : Side → ℕ) (s : Side) (j : WorldState) : Type 0 where
    pub port : SystemPort
    pub index : ℕ
    pub place : port_index (at s) (half s j).state.system_ports ≡ Some index
    pub there : slice_get (half s j).state.system_ports index ≡ Some port
    pub number : port.number ≡ at s
    pub is : IsEnd d (w s) (w (peer s)) (c s) port.port
    pub found : machines_of (at s) (half s j).state ≡ Some port.port

  pub end_here : (d : ℕ) (c : Side → ℕ) (x : Side) (Y : Machines → Type 0) (j : WorldState) → Link d at w c x Y j → (s : Side) → EndPort d c s j
  end_here d c x Y j l s = let st = (half s j).state in
      let place = l.place s in
      let it = found (at s) place.0 st.system_ports place.1 in
      let numbered = found_place (at s) st.system_ports place.0 it.0 place.1 it.1 in
      record {
        port = it.0;
        index = place.0;
        place = place.1;
        there = it.1;
        number = numbered;
        is = (all-get (λ (y : SystemPort). AtPort (at s) (EndIs d w c x Y s) y.number y.port) st.system_ports place.0 it.0 it.1
            (l.ports s) numbered).0;
        found = machines_there (at s) st place.0 it.0 place.1 it.1;
      }

  pub at_end : (d : ℕ) (c : Side → ℕ) (s : Side) (j : WorldState) (e : EndPort d c s j) → AreTimely j → (P : Machines → Type 0)
      → P e.port.port → OfEach (AtPort (at s) P) (half s j).state.system_ports
  at_end d c s j e steady P p = subst (λ n. OfEach (AtPort n P) (half s j).state.system_ports) e.number
      (at_number P 0 (half s j).state.system_ports e.index e.port (ports_rise (half s j).state (steady s).0.ports) e.there p)

  pub end_with : (d : ℕ) (c : Side → ℕ) (s : Side) (j : WorldState) (e : EndPort d c s j) (P : Machines → Type 0)
      → OfEach (AtPort (at s) P) (half s j).state.system_ports → P e.port.port
  end_with d c s j e P a =
      all-get (λ (y : SystemPort). AtPort (at s) P y.number y.port) (half s j).state.system_ports e.index e.port e.there a e.number

pub along_if : (w : Side → Lacpdu) (c : Side → ℕ) (d : ℕ) (x : Side) (Y : Machines → Type 0) → Along Y (w x) (w (peer x)) (c x) d → (s : Side)
    → Along (λ p. s ≡ x → Y p) (w s) (w (peer s)) (c s) d
along_if w c d x Y k s = record {
  mux = λ ready p q h y e. k.mux ready p q h (y e);
  periodic = λ p q h a y e. k.periodic p q h (subst (λ t. IsEnd d (w t) (w (peer t)) (c t) p) e a) (y e);
  select = λ choice p none y e. k.select choice p none (y e);
  takes = λ z p q same awake h a y e. k.takes z p q (subst (λ t. Suits d (w t) (w (peer t)) z) e same) awake h
      (subst (λ t. IsEnd d (w t) (w (peer t)) (c t) p) e a) (y e);
}

pub end_kept : (w : Side → Lacpdu) (c : Side → ℕ) (d : ℕ) (x : Side) (Y : Machines → Type 0) → Along Y (w x) (w (peer x)) (c x) d
    → (s : Side) (n : ℕ) → KeptBySettling (AtPort n (EndIs d w c x Y s))
end_kept w c d x Y k s n = end_settles (λ p. s ≡ x → Y p) (w s) (w (peer s)) (c s) d n (along_if w c d x Y k s)

-- asking

-- what goes out leaves what is on its way
pub gains_has : (s : Side) (P : ItemValue → Type 0) (o : Option (List ℕ)) (fl now : Side → List ItemValue) → Gains s o fl now
    → (t : Side) → Has P (fl t) → Has P (now t)
gains_has s P o fl now h t f = grind (arith, nat_tests, has_on, push_there, push_other)

-- all items on the cable are good
abbrev pub AllGood : ℕ → (Side → Lacpdu) → (Side → List ItemValue) → Type 0
AllGood d w fl = (t : Side) → AllByRecursion (IsGood d w t) (fl t)

pub gains_good : (d : ℕ) (w : Side → Lacpdu) (s : Side) (o : Option (List ℕ)) (fl now : Side → List ItemValue) → Gains s o fl now
    → ((frame : List ℕ) → o ≡ Some frame → (x : Lacpdu) → IsFrame frame (Carries (pdu.Lacpdu x)) → Suits d (w (peer s)) (w (peer (peer s))) x) → AllGood d w fl
    → AllGood d w now
gains_good d w s None fl now h k g = subst (AllGood d w) (sym h) g
gains_good d w s (Some frame) fl now h k g = subst (AllGood d w) (sym h.2)
    (push_each (IsGood d w) (peer s) h.0 fl (λ x c. k frame refl x (subst (λ o. IsFrame o (Carries (pdu.Lacpdu x))) h.1 c)) g)

transmits_good : (d : ℕ) (v u : Lacpdu) (c n : ℕ) (o : Option ℕ) (old : SystemState) (frame : List ℕ) (new : SystemState) → (2 ≤ d → 1 ≤ c)
    → port_index n old.system_ports ≡ o → TransmitsAt o old (Some frame) new → OfEach (AtPort n (IsEnd d v u c)) old.system_ports → (x : Lacpdu)
    → IsFrame frame (Carries (pdu.Lacpdu x)) → Suits d u v x
transmits_good d v u c n None old frame new known e h a x k = absurd h
transmits_good d v u c n (Some i) old frame new known e h a x k =
    subst (Suits d u v) (sent_is h.0.port.enabled (is_due h.0.port) i h.0 old frame new h.2 x k) (own_suits h.0.port old.max_delay d v u c known
    (all-get (λ (y : SystemPort). AtPort n (IsEnd d v u c) y.number y.port) old.system_ports i h.0 h.1 a
    (found_place n old.system_ports i h.0 e h.1)))

pub told_good : (d : ℕ) (v u : Lacpdu) (c : ℕ) (gives : ℕ → ℕ → ℕ → Type 0) (n : ℕ) (a : Result (Option (List ℕ)) SystemFault) (old new : SystemState)
    → (2 ≤ d → 1 ≤ c) → CallPromise gives old (Transmit n) (answer.Transmit a) new → OfEach (AtPort n (IsEnd d v u c)) old.system_ports → (frame : List ℕ)
    → sent_frame a ≡ Some frame → (x : Lacpdu) → IsFrame frame (Carries (pdu.Lacpdu x)) → Suits d u v x
told_good d v u c gives n (Err fault) old new known h ports frame e = absurd (none-some frame e)
told_good d v u c gives n (Ok o) old new known h ports frame e = transmits_good d v u c n (port_index n old.system_ports) old frame new
    known refl (subst (λ b. TransmitsAt (port_index n old.system_ports) old b new) e h.step) ports

-- what an Emit event of an end leaves
pub record Emitted (gives : Algorithms) (s : Side) (d : ℕ) (at : Side → ℕ) (w : Side → Lacpdu) (c : Side → ℕ) (x : Side)
    (Y : Machines → Type 0) (fl : Side → List ItemValue) (old new : WorldState) : Type 0 where
  pub link : Link d at w c x Y new
  pub asks : Asks gives s at fl old new
  pub same : link.flying ≡ asks.now
  pub flying : (t : Side) → Flying (fl t) → Flying (link.flying t)

pub emit_link : (gives : Algorithms) (n : ℕ) (s : Side) (d : ℕ) (at : Side → ℕ) (w : Side → Lacpdu) (c : Side → ℕ) (x : Side)
    (Y : Machines → Type 0) (r : Reply) (old new : WorldState) → Fits d w c → side_of n ≡ Some s → Along Y (w x) (w (peer x)) (c x) d
    → (s ≡ x → (p : Machines) → Y p → Y (after_sending p)) → (l : Link d at w c x Y old) → WorldSteps gives old (event.Emit n (at s)) r new
    → Emitted gives s d at w c x Y l.flying old new
emit_link gives n s d at w c x Y r old new fits told along sends l h =
    let k = asks gives n s l.index at l.flying r old new told l.links h in
    let steady = keeps_timely gives (event.Emit n (at s)) r old new h l.steady in
    let own = Step-each (AtPort (at s) (EndIs d w c x Y s)) (end_kept w c d x Y along s (at s)) (gives s) (half s old).state
    (Transmit (at s)) (answer.Transmit k.a) (half s new).state (λ p told a e. ((a e).0, λ f. sends f p ((a e).1 f))) k.promise.step
    (l.ports s) in
    let other = subst (λ (y : SystemState). OfEach (AtPort (at (peer s)) (EndIs d w c x Y (peer s))) y.system_ports) (sym k.peers)
    (l.ports (peer s)) in
    let says = of_end l s (IsEnd d (w s) (w (peer s)) (c s)) (λ p rest timed a. a.0) in
    record {
      link = record {
        steady = steady;
        flying = k.now;
        index = k.index;
        links = k.links;
        good = gains_good d w s (sent_frame k.a) l.flying k.now k.went (λ frame e x carried. subst (λ t. Suits d (w (peer s)) (w t) x)
            (sym (peer_twice s)) (told_good d (w s) (w (peer s)) (c s) (gives s) (at s) k.a (half s old).state
            (half s new).state (fits s).2 k.promise says frame e x carried)) l.good;
        place = λ t. ((l.place t).0, place_kept gives (event.Emit n (at s)) r old new h l.steady steady t (at t) ∙ (l.place t).1);
        ports = each_side (λ t. OfEach (AtPort (at t) (EndIs d w c x Y t)) (half t new).state.system_ports) s own other;
      };
      asks = k;
      same = refl;
      flying = gains_has s HasLacpdu (sent_frame k.a) l.flying k.now k.went;
    }

-- what leaves the cable to itself

-- a call of another port leaves what holds of this one
pub elsewhere_each : (P : Machines → Type 0) (gives : ℕ → ℕ → ℕ → Type 0) (n : ℕ) (old new : SystemState) → KeptBySettling (AtPort n P)
    → Elsewhere gives n old new → OfEach (AtPort n P) old.system_ports → OfEach (AtPort n P) new.system_ports
elsewhere_each P gives n old new k (inl e) a = subst (λ (s : SystemState). OfEach (AtPort n P) s.system_ports) (sym e) a
elsewhere_each P gives n old new k (inr (p, Transmit m, answer, other, is, step)) a =
    Step-each (AtPort n P) k gives old (Transmit m) answer new (λ q told h e. absurd (other (sym is ∙ e))) step a
elsewhere_each P gives n old new k (inr (p, Receive m octets, answer, other, is, step)) a =
    Step-each (AtPort n P) k gives old (Receive m octets) answer new (λ v q r took came does h e. absurd (other (sym is ∙ e))) step a
elsewhere_each P gives n old new k (inr (p, call, answer, other, is, step)) a = absurd is

-- what it leaves of the cable, with the same items
pub record Left (d : ℕ) (at : Side → ℕ) (w : Side → Lacpdu) (c : Side → ℕ) (x : Side) (Y : Machines → Type 0) (fl : Side → List ItemValue)
    (new : WorldState) : Type 0 where
  pub link : Link d at w c x Y new
  pub same : link.flying ≡ fl

pub beside_link : (gives : Algorithms) (e : Event) (d : ℕ) (at : Side → ℕ) (w : Side → Lacpdu) (c : Side → ℕ) (x : Side)
    (Y : Machines → Type 0) (r : Reply) (old new : WorldState) → Along Y (w x) (w (peer x)) (c x) d → (l : Link d at w c x Y old)
    → WorldSteps gives old e r new → Beside gives at l.flying old new → Left d at w c x Y l.flying new
beside_link gives e d at w c x Y r old new along l h b = let steady = keeps_timely gives e r old new h l.steady in
    record {
      link = record {
        steady = steady;
        flying = l.flying;
        index = b.index;
        links = b.links;
        good = l.good;
        place = λ t. ((l.place t).0, place_kept gives e r old new h l.steady steady t (at t) ∙ (l.place t).1);
        ports = λ t. elsewhere_each (EndIs d w c x Y t) (gives t) (at t) (half t old).state (half t new).state
            (end_kept w c d x Y along t (at t)) (b.calls t) (l.ports t);
      };
      same = refl;
    }

-- an Emit event asks an end of the cable, or leaves the cable to itself
pub asked_which : (gives : Algorithms) (n p i : ℕ) (at : Side → ℕ) (fl : Side → List ItemValue) (r : Reply) (old new : WorldState) → OnCable i at fl old.links
    → WorldSteps gives old (event.Emit n p) r new → ((s : Side) × (side_of n ≡ Some s) × (p ≡ at s)) ⊎ Beside gives at fl old new
asked_which gives n p i at fl r old new c h = let m = emits gives n p r old new h in
    elim (cases_Bool (at m.0 == p)) [
      | inl t ↦ (let same : p ≡ at m.0 = grind (arith, nat_tests) in inl (m.0, m.1, same))
      | inr f ↦ (let other : at m.0 ≡ p → ⊥ = grind (arith, nat_tests) in
          inr (emits_beside gives m.0 p i at fl old new c other m.2))
    ]

-- what any Emit event leaves; what was on its way still is
pub record AfterAsk (d : ℕ) (at : Side → ℕ) (w : Side → Lacpdu) (c : Side → ℕ) (x : Side) (Y : Machines → Type 0) (fl : Side → List ItemValue)
    (new : WorldState) : Type 0 where
  pub link : Link d at w c x Y new
  pub flying : (t : Side) → Flying (fl t) → Flying (link.flying t)

pub emit_any : (gives : Algorithms) (n p : ℕ) (d : ℕ) (at : Side → ℕ) (w : Side → Lacpdu) (c : Side → ℕ) (x : Side) (Y : Machines → Type 0)
    (r : Reply) (old new : WorldState) → Fits d w c → Along Y (w x) (w (peer x)) (c x) d → ((q : Machines) → Y q → Y (after_sending q))
    → (l : Link d at w c x Y old) → WorldSteps gives old (event.Emit n p) r new → AfterAsk d at w c x Y l.flying new
emit_any gives n p d at w c x Y r old new fits along sends l h = elim (asked_which gives n p l.index at l.flying r old new l.links h) [
  | inl (s, told, is) ↦ (let e = emit_link gives n s d at w c x Y r old new fits told along (λ f. sends) l
      (subst (λ q. WorldSteps gives old (event.Emit n q) r new) is h) in record { link = e.link; flying = e.flying })
  | inr b ↦ (let e = beside_link gives (event.Emit n p) d at w c x Y r old new along l h b in
      record { link = e.link; flying = λ t f. subst (λ (g : Side → List ItemValue). Flying (g t)) (sym e.same) f })
]
