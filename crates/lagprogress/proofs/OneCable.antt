-- What ticks, Emit and Deliver events do to a cable that is whole and has no limit, and what they leave to itself.
use Rattle.lagprogress.proofs.Common.{Bool, Err, List, None, Ok, Option, Result, Some, [], ap, arith, cond, get_or, inl, inr, length, map, nat_lt}
use Rattle.lagprogress.proofs.Common.{not, option_map, position, refl, slice_get, slice_set, subst, suc, sym, true, ℕ, ◌++◌, ◌<◌, ◌==◌, ◌∙◌, ◌∷◌, ◌≡◌}
use Rattle.lagprogress.proofs.Common.{◌⊎◌, cases_Bool, false≢true, nat_tests, position-Some, same_Some, slice_get-get_or, slice_get_within}
use Rattle.lagprogress.proofs.Common.{AllByRecursion, position_or_len, itself, Lacpdu, pdu_in, all-append, IsCabling, One, Side, Two, end_at, peer}
use Rattle.lagprogress.proofs.Common.{value_of, Stamp, Answer, SystemFault, Received, Call, Carries, IsFrame, Receive, Step, Tick, Transmit}
use Rattle.lagprogress.proofs.Common.{CallPromise, SystemState, PortHistory, Reply, AfterReceive, AfterTransmit, Algorithms, DeliversFrom, WorldEmits}
use Rattle.lagprogress.proofs.Common.{WorldReceives, WorldSteps, set_last_lacpdu, side_of, stamp_for, stamped_in, with_link_at, with_stamp_collected}
use Rattle.lagprogress.proofs.Common.{payload_in, stamp_count, link_ends, HalfState, ItemValue, LinkState, WorldState, accepts, change_count_in}
use Rattle.lagprogress.proofs.Common.{change_link, half, history_at, limit_towards, link_at, link_index, port_at, put_on_port, sent_on, towards}
use Rattle.lagprogress.proofs.Common.{with_half, with_links, with_towards, read_log, end_is, mapped_set, put_ends, set_elsewhere, set_here}
use Rattle.lagprogress.proofs.Common.{half_there, position_there}
use Rattle.lagsystem.specs.declared.drive.Reply.TheVariants as answer
use Rattle.lagsystem.specs.declared.received.Received.TheVariants as received
use Rattle.lagscript.specs.declared.event.Event.TheVariants as event
use Rattle.slowpdu.specs.declared.pdu.Pdu.TheVariants as pdu
use Rattle.slowpdu.proofs.PduInLemmas.{pdu_read}
use Rattle.cables.specs.declared.item.Stamp.TheVariants as stamp
use Rattle.lagprogress.proofs.Passing.{peer_there, put_there}
use Rattle.std.proofs.lemmas.List.Sums.{fails_before_first}

-- the cable that joins these ports, with these items on it towards each system
abbrev pub cable : (Side → ℕ) → (Side → List ItemValue) → LinkState
cable at fl = record { one = at One; two = at Two; whole = true; to_one = fl One; to_two = fl Two; limit_one = None; limit_two = None }

-- one more item towards system s, behind the others
abbrev pub push : Side → ItemValue → (Side → List ItemValue) → Side → List ItemValue
push One item fl One = fl One ++ item ∷ []
push One item fl Two = fl Two
push Two item fl One = fl One
push Two item fl Two = fl Two ++ item ∷ []

-- these items towards system s
abbrev pub put : Side → List ItemValue → (Side → List ItemValue) → Side → List ItemValue
put One xs fl One = xs
put One xs fl Two = fl Two
put Two xs fl One = fl One
put Two xs fl Two = xs

-- the link state is that cable
pub as_cable : (l : LinkState) → l.whole ≡ true → ((s : Side) → limit_towards s l ≡ None) → l ≡ cable (λ s. port_at s l) (λ s. towards s l)
as_cable l whole none = λ i. record {
  one = l.one;
  two = l.two;
  whole = whole i;
  to_one = l.to_one;
  to_two = l.to_two;
  limit_one = none One i;
  limit_two = none Two i;
}

pub port_there : (s : Side) (at : Side → ℕ) (fl : Side → List ItemValue) → port_at s (cable at fl) ≡ at s
port_there s at fl = grind (arith, nat_tests)

-- no port has two cables, and the one at this index is that cable
pub record OnCable (i : ℕ) (at : Side → ℕ) (fl : Side → List ItemValue) (links : List LinkState) : Type 0 where
  pub there : slice_get links i ≡ Some (cable at fl)
  pub cabling : IsCabling (map link_ends links)

-- the cable of its ports is no other
pub alone : (s : Side) (i k : ℕ) (at : Side → ℕ) (fl : Side → List ItemValue) (links : List LinkState) (l : LinkState)
    → OnCable i at fl links → slice_get links k ≡ Some l → port_at s l ≡ at s → k ≡ i
alone s i k at fl links l c h e =
    let there : end_at (map link_ends links) s (suc k) ≡ Some (at s) = end_is s links k l h ∙ ap (λ (n : ℕ). Some n) e in
    let here : end_at (map link_ends links) s (suc i) ≡ Some (at s) =
    end_is s links i (cable at fl) c.there ∙ ap (λ (n : ℕ). Some n) (port_there s at fl) in
    let same : suc k ≡ suc i = c.cabling s (suc k) (suc i) (at s) there here in omega (arith, same)

-- where an element passes, one is found
is_found : {X : Type 0} (q : X → Bool) (xs : List X) (i : ℕ) (x : X) → slice_get xs i ≡ Some x → q x ≡ true → position q xs ≡ Some (position_or_len q xs)
is_found q xs i x e h = elim (cases_Bool (nat_lt (position_or_len q xs) (length xs))) [
  | inl t ↦ ap (λ b. cond b (Some (position_or_len q xs)) None) t
  | inr f ↦ (let within = slice_get_within xs i x e in
      let before : i < position_or_len q xs = grind (arith, nat_tests) in
      let it = same_Some (get_or xs i x) x (sym (slice_get-get_or xs i x within) ∙ e) in
      absurd (false≢true (sym (fails_before_first q xs i x before) ∙ (ap q it ∙ h))))
]

pub placed : (s : Side) (i : ℕ) (at : Side → ℕ) (fl : Side → List ItemValue) (links : List LinkState) → OnCable i at fl links
    → link_index s (at s) links ≡ Some i
placed s i at fl links c = let q : LinkState → Bool = λ l. port_at s l == at s in
    let k = position_or_len q links in
    let found : link_index s (at s) links ≡ Some k = is_found q links i (cable at fl) c.there
    (subst (λ n. (n == at s) ≡ true) (sym (port_there s at fl)) (itself (at s))) in
    let within = (position-Some q links k (cable at fl) found).0 in
    let it = slice_get-get_or links k (cable at fl) within in
    found ∙ ap (λ (n : ℕ). Some n) (alone s i k at fl links _ c it (position_there s (at s) links k _ found it))

-- the cable with other items
pub on_set : (i : ℕ) (at : Side → ℕ) (fl now : Side → List ItemValue) (links : List LinkState) → OnCable i at fl links
    → OnCable i at now (slice_set links i (cable at now))
on_set i at fl now links hyp1 = grind (arith, nat_tests, set_here, mapped_set)

-- another cable with other items
pub set_beside : (i k : ℕ) (at : Side → ℕ) (fl : Side → List ItemValue) (links : List LinkState) (l m : LinkState) → OnCable i at fl links
    → slice_get links k ≡ Some l → (k ≡ i → ⊥) → link_ends m ≡ link_ends l → OnCable i at fl (slice_set links k m)
set_beside i k at fl links l m hyp1 hyp2 hyp3 hyp4 = grind (arith, nat_tests, set_elsewhere, not, mapped_set)

-- an item that is put on the cable of another port
pub put_beside : (s : Side) (p i : ℕ) (at : Side → ℕ) (fl : Side → List ItemValue) (item : ItemValue) (links : List LinkState)
    → (at s ≡ p → ⊥) → OnCable i at fl links → OnCable i at fl (put_on_port s p item links)
put_beside s p i at fl item links not c = record {
  there = beside (link_index s p links) (link_at (link_index s p links) links) refl refl;
  cabling = subst IsCabling (sym (put_ends s p item links)) c.cabling;
}
  where
    apart : (k : ℕ) (l : LinkState) → link_index s p links ≡ Some k → slice_get links k ≡ Some l → i ≡ k → ⊥
    apart k l e h same = not (sym (port_there s at fl)
        ∙ (ap (port_at s) (same_Some (cable at fl) l (sym c.there ∙ (ap (slice_get links) same ∙ h))) ∙ position_there s p links k l e h))

    beside : (o : Option ℕ) (m : Option LinkState) → link_index s p links ≡ o → link_at o links ≡ m
        → slice_get (change_link o (sent_on s item) m links) i ≡ Some (cable at fl)
    beside None m e h = c.there
    beside (Some k) None e h = c.there
    beside (Some k) (Some l) e h = set_elsewhere links k i (sent_on s item l) (apart k l e h) ∙ c.there

pub takes_all : (s : Side) (at : Side → ℕ) (fl : Side → List ItemValue) → accepts s (cable at fl) ≡ true
takes_all s at fl = grind (arith, nat_tests)

pushed : (s : Side) (at : Side → ℕ) (fl : Side → List ItemValue) (item : ItemValue)
    → with_towards (peer s) (towards (peer s) (cable at fl) ++ item ∷ []) (cable at fl) ≡ cable at (push (peer s) item fl)
pushed s at fl item = grind (arith, nat_tests)

-- what an item that is put on the port's cable makes of it
pub puts : (s : Side) (i : ℕ) (at : Side → ℕ) (fl : Side → List ItemValue) (item : ItemValue) (links : List LinkState) → OnCable i at fl links
    → OnCable i at (push (peer s) item fl) (put_on_port s (at s) item links)
puts s i at fl item links c =
    subst (OnCable i at (push (peer s) item fl)) (sym (put_there s (at s) i item (cable at fl) links (placed s i at fl links c) c.there
    (takes_all s at fl) ∙ ap (slice_set links i) (pushed s at fl item)))
    (on_set i at fl (push (peer s) item fl) links c)

-- one more item away from system s, if there is one
abbrev pub gained : Side → Option ItemValue → (Side → List ItemValue) → Side → List ItemValue
gained s None fl = fl
gained s (Some item) fl = push (peer s) item fl

-- the cables after port p of system s sent an item, if there is one
abbrev pub with_put : Side → ℕ → Option ItemValue → List LinkState → List LinkState
with_put s p None links = links
with_put s p (Some item) links = put_on_port s p item links

with_put_ends : (s : Side) (p : ℕ) (o : Option ItemValue) (links : List LinkState) → map link_ends (with_put s p o links) ≡ map link_ends links
with_put_ends s p o links = grind (arith, nat_tests, put_ends)

beside_put : (s : Side) (p i : ℕ) (at : Side → ℕ) (fl : Side → List ItemValue) (o : Option ItemValue) (links : List LinkState)
    → (at s ≡ p → ⊥) → OnCable i at fl links → OnCable i at fl (with_put s p o links)
beside_put s p i at fl None links not c = c
beside_put s p i at fl (Some item) links not c = put_beside s p i at fl item links not c

own_put : (s : Side) (i : ℕ) (at : Side → ℕ) (fl : Side → List ItemValue) (o : Option ItemValue) (links : List LinkState)
    → OnCable i at fl links → OnCable i at (gained s o fl) (with_put s (at s) o links)
own_put s i at fl None links c = c
own_put s i at fl (Some item) links c = puts s i at fl item links c

-- what became of the cable after system s sent a frame with these octets, or none
abbrev pub Gains : Side → Option (List ℕ) → (Side → List ItemValue) → (Side → List ItemValue) → Type 0
Gains s None fl now = now ≡ fl
Gains s (Some frame) fl now = (item : ItemValue) × (item.octets ≡ frame) × (now ≡ push (peer s) item fl)

gains : (s : Side) (as_item : List ℕ → ItemValue) → ((frame : List ℕ) → (as_item frame).octets ≡ frame) → (o : Option (List ℕ))
    (fl : Side → List ItemValue) → Gains s o fl (gained s (option_map as_item o) fl)
gains s as_item same o fl = grind (arith, nat_tests)

-- the frame that goes out with an answer to Transmit, and the item that it becomes; its stamp depends on the histories
abbrev pub sent_frame : Result (Option (List ℕ)) SystemFault → Option (List ℕ)
sent_frame (Err fault) = None
sent_frame (Ok o) = o

abbrev pub sent_item : ℕ → List PortHistory → List ℕ → ItemValue
sent_item p logs frame = record { octets = frame; stamp = stamp_for (pdu_in (payload_in frame)) (change_count_in (history_at logs p)) }

-- what became of the cable after a frame was asked for
abbrev pub Went : Side → Result (Option (List ℕ)) SystemFault → (Side → List ItemValue) → (Side → List ItemValue) → Type 0
Went s a fl now = Gains s (sent_frame a) fl now

-- an LACPDU in the item has this number as its stamp
abbrev pub IsStamped : ℕ → ItemValue → Type 0
IsStamped n item = (x : Lacpdu) → IsFrame item.octets (Carries (pdu.Lacpdu x)) → stamp_count item.stamp ≡ n

pub push_each : (P : Side → ItemValue → Type 0) (s : Side) (item : ItemValue) (fl : Side → List ItemValue) → P s item
    → ((t : Side) → AllByRecursion (P t) (fl t)) → (t : Side) → AllByRecursion (P t) (push s item fl t)
push_each P s item fl h a t = grind (arith, nat_tests, all-append)

abbrev Stamping : Side → ℕ → List PortHistory → (Side → List ItemValue) → (Side → List ItemValue) → Type 0
Stamping s p logs fl now = (now ≡ fl)
    ⊎ ((item : ItemValue) × IsStamped (change_count_in (history_at logs p)) item × (now ≡ push (peer s) item fl))

stamping : (s : Side) (p : ℕ) (logs : List PortHistory) (o : Option (List ℕ)) (fl : Side → List ItemValue)
    → Stamping s p logs fl (gained s (option_map (sent_item p logs) o) fl)
stamping s p logs None fl = inl refl
stamping s p logs (Some frame) fl = inr (
  sent_item p logs frame,
  λ x c. ap (λ v. stamp_count (stamp_for v (change_count_in (history_at logs p)))) (pdu_read (payload_in frame) (pdu.Lacpdu x) c.1),
  refl,
)

pub half_logs : (s : Side) (h : HalfState) (j : WorldState) → h.histories ≡ (half s j).histories
    → (t : Side) → (half t (with_half s h j)).histories ≡ (half t j).histories
half_logs s h j e t = grind (arith, nat_tests)

-- system s was asked for a frame of port p
pub record Emits (gives : Algorithms) (s : Side) (p : ℕ) (old new : WorldState) : Type 0 where
  pub a : Result (Option (List ℕ)) SystemFault
  pub promise : CallPromise (gives s) (half s old).state (Transmit p) (answer.Transmit a) (half s new).state
  pub peers : (half (peer s) new).state ≡ (half (peer s) old).state
  pub links : new.links ≡ with_put s p (option_map (sent_item p (half s old).histories) (sent_frame a)) old.links
  pub ends : map link_ends new.links ≡ map link_ends old.links
  pub logs : (t : Side) → (half t new).histories ≡ (half t old).histories

after_transmit : (s : Side) (p : ℕ) (a : Result (Option (List ℕ)) SystemFault) (j new : WorldState) (r : Reply) → AfterTransmit s p a j r new
    → new ≡ with_links j (with_put s p (option_map (sent_item p (half s j).histories) (sent_frame a)) j.links)
after_transmit s p a j new r x = grind (arith, nat_tests)

emitted : (gives : Algorithms) (s : Side) (p : ℕ) (r : Reply) (old new : WorldState)
    → WorldEmits gives s p old r (record new { acted = old.acted }) → Emits gives s p old new
emitted gives s p r old new (a, mid, h, x) = grind (arith, nat_tests, after_transmit, half_there, peer_there, half_logs, with_put_ends)

pub emits : (gives : Algorithms) (n p : ℕ) (r : Reply) (old new : WorldState) → WorldSteps gives old (event.Emit n p) r new
    → (s : Side) × (side_of n ≡ Some s) × Emits gives s p old new
emits gives n p r old new h = let v = value_of (side_of n) _ h.0 in (v.0, v.1, emitted gives v.0 p r old new v.2)

-- system s was asked for a frame of its port
pub record Asks (gives : Algorithms) (s : Side) (at : Side → ℕ) (fl : Side → List ItemValue) (old new : WorldState) : Type 0 where
  pub a : Result (Option (List ℕ)) SystemFault
  pub promise : CallPromise (gives s) (half s old).state (Transmit (at s)) (answer.Transmit a) (half s new).state
  pub peers : (half (peer s) new).state ≡ (half (peer s) old).state
  pub now : Side → List ItemValue
  pub went : Went s a fl now
  pub index : ℕ
  pub links : OnCable index at now new.links
  pub logs : (t : Side) → (half t new).histories ≡ (half t old).histories
  pub stamps : Stamping s (at s) (half s old).histories fl now

pub asks : (gives : Algorithms) (n : ℕ) (s : Side) (i : ℕ) (at : Side → ℕ) (fl : Side → List ItemValue) (r : Reply) (old new : WorldState)
    → side_of n ≡ Some s → OnCable i at fl old.links → WorldSteps gives old (event.Emit n (at s)) r new → Asks gives s at fl old new
asks gives n s i at fl r old new named c h = let m = emits gives n (at s) r old new h in
    let k = subst (λ t. Emits gives t (at s) old new) (same_Some m.0 s (sym m.1 ∙ named)) m.2 in
    let as_item = sent_item (at s) (half s old).histories in
    let item = option_map as_item (sent_frame k.a) in
    record {
      a = k.a;
      promise = k.promise;
      peers = k.peers;
      now = gained s item fl;
      went = gains s as_item (λ frame. refl) (sent_frame k.a) fl;
      index = i;
      links = subst (OnCable i at (gained s item fl)) (sym k.links) (own_put s i at fl item old.links c);
      logs = k.logs;
      stamps = stamping s (at s) (half s old).histories (sent_frame k.a) fl;
    }

-- the frame that goes back with an answer to Receive, and the item that it becomes
abbrev pub response : Result Received SystemFault → Option (List ℕ)
response (Ok (received.Respond frame)) = Some frame
response a = None

abbrev pub as_response : List ℕ → ItemValue
as_response frame = record { octets = frame; stamp = stamp.Control 0 }

-- what became of the cable after an item came off it
abbrev pub Back : Side → Result Received SystemFault → (Side → List ItemValue) → (Side → List ItemValue) → Type 0
Back s a fl now = Gains s (response a) fl now

-- the histories after an arrival on port p
abbrev pub logged : Result Received SystemFault → ℕ → ItemValue → List PortHistory → List PortHistory
logged (Ok received.TookLacpdu) p item logs = set_last_lacpdu p (stamped_in item) logs
logged _ p item logs = logs

-- the first item towards system s came to its port
pub record Arrives (gives : Algorithms) (s : Side) (at : Side → ℕ) (fl : Side → List ItemValue) (old new : WorldState) : Type 0 where
  pub item : ItemValue
  pub rest : List ItemValue
  pub first : fl s ≡ item ∷ rest
  pub a : Result Received SystemFault
  pub promise : CallPromise (gives s) (half s old).state (Receive (at s) item.octets) (answer.Receive a) (half s new).state
  pub peers : (half (peer s) new).state ≡ (half (peer s) old).state
  pub now : Side → List ItemValue
  pub back : Back s a (put s rest fl) now
  pub index : ℕ
  pub links : OnCable index at now new.links
  pub log : (half s new).histories ≡ logged a (at s) item (half s old).histories
  pub peer_log : (half (peer s) new).histories ≡ (half (peer s) old).histories

-- nothing came
pub record Stays (old new : WorldState) : Type 0 where
  pub halves : (s : Side) → (half s new).state ≡ (half s old).state
  pub logs : (s : Side) → (half s new).histories ≡ (half s old).histories
  pub links : new.links ≡ old.links

-- the cables after what goes back from port p
abbrev pub Sends : Side → ℕ → Result Received SystemFault → List LinkState → List LinkState → Type 0
Sends s p a old new = new ≡ with_put s p (option_map as_response (response a)) old

-- the states and the cables after what is done with an answer
record After (s : Side) (p : ℕ) (item : ItemValue) (a : Result Received SystemFault) (j new : WorldState) : Type 0 where
  halves : (t : Side) → (half t new).state ≡ (half t j).state
  sends : Sends s p a j.links new.links
  log : (half s new).histories ≡ logged a p item (half s j).histories
  peer_log : (half (peer s) new).histories ≡ (half (peer s) j).histories

pub with_half_states : (s : Side) (h : HalfState) (j : WorldState) → h.state ≡ (half s j).state
    → (t : Side) → (half t (with_half s h j)).state ≡ (half t j).state
with_half_states s h j e t = grind (arith, nat_tests)

pub collected_states : (st : Stamp) (j : WorldState) (t : Side) → (half t (with_stamp_collected st j)).state ≡ (half t j).state
collected_states st j t = grind (arith, nat_tests)

peer_logs : (s : Side) (h : HalfState) (j : WorldState) → (half (peer s) (with_half s h j)).histories ≡ (half (peer s) j).histories
peer_logs s h j = grind (arith, nat_tests)

pub collected_links : (st : Stamp) (j : WorldState) → (with_stamp_collected st j).links ≡ j.links
collected_links st j = grind (arith, nat_tests)

after : (s : Side) (p : ℕ) (item : ItemValue) (a : Result Received SystemFault) (j new : WorldState) (r : Reply)
    → AfterReceive s p item a j r new → After s p item a j new
after s p item a j new r x = grind (arith, nat_tests)

without : (s : Side) (at : Side → ℕ) (fl : Side → List ItemValue) (rest : List ItemValue) → with_towards s rest (cable at fl) ≡ cable at (put s rest fl)
without s at fl rest = grind (arith, nat_tests)

pub towards_there : (s : Side) (at : Side → ℕ) (fl : Side → List ItemValue) → towards s (cable at fl) ≡ fl s
towards_there s at fl = grind (arith, nat_tests)

-- the first item towards system s on the cable at index k came to its port
pub record Comes (gives : Algorithms) (s : Side) (k : ℕ) (l : LinkState) (old new : WorldState) : Type 0 where
  pub item : ItemValue
  pub rest : List ItemValue
  pub first : towards s l ≡ item ∷ rest
  pub a : Result Received SystemFault
  pub promise : CallPromise (gives s) (half s old).state (Receive (port_at s l) item.octets) (answer.Receive a) (half s new).state
  pub peers : (half (peer s) new).state ≡ (half (peer s) old).state
  pub sends : Sends s (port_at s l) a (slice_set old.links k (with_towards s rest l)) new.links
  pub log : (half s new).histories ≡ logged a (port_at s l) item (half s old).histories
  pub peer_log : (half (peer s) new).histories ≡ (half (peer s) old).histories

pub came : (gives : Algorithms) (s : Side) (k : ℕ) (l : LinkState) (item : ItemValue) (rest : List ItemValue) (r : Reply) (old new : WorldState)
    → towards s l ≡ item ∷ rest → WorldReceives gives s (port_at s l) item (with_link_at k (with_towards s rest l) old) r (record new { acted = old.acted })
    → Comes gives s k l old new
came gives s k l item rest r old new first (a, mid, h, x) = grind (arith, nat_tests, after, half_there, peer_there, peer_logs)

pub came_from : (gives : Algorithms) (s : Side) (k : ℕ) (l : LinkState) (xs : List ItemValue) (r : Reply) (old new : WorldState)
    → towards s l ≡ xs → DeliversFrom gives s k l xs old r (record new { acted = old.acted }) → Comes gives s k l old new ⊎ Stays old new
came_from gives s k l [] r old new first x = grind (arith, nat_tests)
came_from gives s k l (item ∷ rest) r old new first x = inl (came gives s k l item rest r old new first x)

-- a Deliver event takes the first item off some cable, or there is none
pub record CameOff (gives : Algorithms) (c n : ℕ) (old new : WorldState) : Type 0 where
  pub side : Side
  pub named : side_of n ≡ Some side
  pub index : ℕ
  pub numbered : c ≡ suc index
  pub link : LinkState
  pub there : slice_get old.links index ≡ Some link
  pub comes : Comes gives side index link old new

pub came_off : (gives : Algorithms) (c n : ℕ) (r : Reply) (old new : WorldState) → WorldSteps gives old (event.Deliver c n) r new
    → CameOff gives c n old new ⊎ Stays old new
came_off gives c n r old new hyp1 = grind (arith, nat_tests, value_of, slice_get, came_from)

-- it leaves the ports that the cables join
pub deliver_ends : (gives : Algorithms) (c n : ℕ) (r : Reply) (old new : WorldState) → WorldSteps gives old (event.Deliver c n) r new
    → map link_ends new.links ≡ map link_ends old.links
deliver_ends gives c n r old new hyp1 = grind (arith, nat_tests, came_off, map, with_put_ends, option_map, mapped_set)

-- an event of a port leaves the others

-- the call is one of this port: it is asked for a frame, or a frame comes to it
abbrev pub IsOfPort : ℕ → Call → Type 0
IsOfPort p (Transmit n) = n ≡ p
IsOfPort p (Receive n octets) = n ≡ p
IsOfPort p call = ⊥

-- the state stays, or it changes by such a call of another port than n
abbrev pub Elsewhere : (ℕ → ℕ → ℕ → Type 0) → ℕ → SystemState → SystemState → Type 0
Elsewhere gives n old new =
    (new ≡ old) ⊎ ((p : ℕ) × (call : Call) × (a : Answer) × (p ≡ n → ⊥) × IsOfPort p call × Step gives old call a new)

-- the event leaves this cable and its ports to themselves
pub record Beside (gives : Algorithms) (at : Side → ℕ) (fl : Side → List ItemValue) (old new : WorldState) : Type 0 where
  pub index : ℕ
  pub links : OnCable index at fl new.links
  pub calls : (s : Side) → Elsewhere (gives s) (at s) (half s old).state (half s new).state
  pub logs : (s : Side) → history_at (half s new).histories (at s) ≡ history_at (half s old).histories (at s)

pub each_side : (X : Side → Type 0) (s : Side) → X s → X (peer s) → (t : Side) → X t
each_side X s a b t = grind (arith, nat_tests)

log_beside : (a : Result Received SystemFault) (p : ℕ) (item : ItemValue) (logs : List PortHistory) (q : ℕ) → (q ≡ p → ⊥)
    → history_at (logged a p item logs) q ≡ history_at logs q
log_beside (Ok received.TookLacpdu) p item logs q not = read_log (λ o. o) p (stamped_in item) q (λ history. inl not) logs
log_beside a p item logs q not = refl

pub arrived : (gives : Algorithms) (s : Side) (i : ℕ) (at : Side → ℕ) (fl : Side → List ItemValue) (l : LinkState) (old new : WorldState)
    → OnCable i at fl old.links → l ≡ cable at fl → Comes gives s i l old new → Arrives gives s at fl old new
arrived gives s i at fl l old new c is m = let port : port_at s l ≡ at s = ap (port_at s) is ∙ port_there s at fl in
    let links = slice_set old.links i (with_towards s m.rest l) in
    let less : OnCable i at (put s m.rest fl) links =
    subst (OnCable i at (put s m.rest fl)) (ap (slice_set old.links i) (sym (ap (with_towards s m.rest) is ∙ without s at fl m.rest)))
    (on_set i at fl (put s m.rest fl) old.links c) in
    let item = option_map as_response (response m.a) in
    record {
      item = m.item;
      rest = m.rest;
      first = sym (ap (towards s) is ∙ towards_there s at fl) ∙ m.first;
      a = m.a;
      promise = subst (λ p. CallPromise (gives s) (half s old).state (Receive p m.item.octets) (answer.Receive m.a) (half s new).state) port
          m.promise;
      peers = m.peers;
      now = gained s item (put s m.rest fl);
      back = gains s as_response (λ frame. refl) (response m.a) (put s m.rest fl);
      index = i;
      links = subst (OnCable i at (gained s item (put s m.rest fl))) (sym (subst (λ p. Sends s p m.a links new.links) port m.sends))
          (own_put s i at (put s m.rest fl) item links less);
      log = subst (λ p. (half s new).histories ≡ logged m.a p m.item (half s old).histories) port m.log;
      peer_log = m.peer_log;
    }

pub passed_by : (gives : Algorithms) (s : Side) (i k : ℕ) (at : Side → ℕ) (fl : Side → List ItemValue) (l : LinkState) (old new : WorldState)
    → OnCable i at fl old.links → slice_get old.links k ≡ Some l → (k ≡ i → ⊥) → Comes gives s k l old new → Beside gives at fl old new
passed_by gives s i k at fl l old new c there not m =
    let other : at s ≡ port_at s l → ⊥ = λ e. not (alone s i k at fl old.links l c there (sym e)) in
    let less = set_beside i k at fl old.links l (with_towards s m.rest l) c there not refl in
    record {
      index = i;
      links = subst (OnCable i at fl) (sym m.sends) (beside_put s (port_at s l) i at fl (option_map as_response (response m.a)) _ other less);
      calls = each_side (λ t. Elsewhere (gives t) (at t) (half t old).state (half t new).state) s
          (inr (port_at s l, Receive (port_at s l) m.item.octets, answer.Receive m.a, λ e. other (sym e), refl, m.promise.step))
          (inl m.peers);
      logs = each_side (λ t. history_at (half t new).histories (at t) ≡ history_at (half t old).histories (at t)) s
          (ap (λ g. history_at g (at s)) m.log ∙ log_beside m.a (port_at s l) m.item (half s old).histories (at s) other)
          (ap (λ g. history_at g (at (peer s))) m.peer_log);
    }

pub stays_beside : (gives : Algorithms) (i : ℕ) (at : Side → ℕ) (fl : Side → List ItemValue) (old new : WorldState) → OnCable i at fl old.links
    → Stays old new → Beside gives at fl old new
stays_beside gives i at fl old new hyp1 hyp2 = grind (arith, nat_tests)

-- a Deliver event brings the first item of the cable, or leaves the cable to itself
pub delivers : (gives : Algorithms) (c n i : ℕ) (at : Side → ℕ) (fl : Side → List ItemValue) (r : Reply) (old new : WorldState) → OnCable i at fl old.links
    → WorldSteps gives old (event.Deliver c n) r new → ((s : Side) × Arrives gives s at fl old new) ⊎ Beside gives at fl old new
delivers gives c n i at fl r old new e h = elim (came_off gives c n r old new h) [
  | inl m ↦ elim (cases_Bool (m.index == i)) [
    | inl t ↦ (let same : m.index ≡ i = grind (arith, nat_tests) in
        let is : m.link ≡ cable at fl = same_Some m.link (cable at fl) (sym m.there ∙ (ap (slice_get old.links) same ∙ e.there)) in
        inl (m.side, arrived gives m.side i at fl m.link old new e is (subst (λ k. Comes gives m.side k m.link old new) same m.comes)))
    | inr f ↦ (let other : m.index ≡ i → ⊥ = grind (arith, nat_tests) in
        inr (passed_by gives m.side i m.index at fl m.link old new e m.there other m.comes))
  ]
  | inr m ↦ inr (stays_beside gives i at fl old new e m)
]

-- an Emit event of another port leaves the cable to itself
pub emits_beside : (gives : Algorithms) (s : Side) (p i : ℕ) (at : Side → ℕ) (fl : Side → List ItemValue) (old new : WorldState)
    → OnCable i at fl old.links → (at s ≡ p → ⊥) → Emits gives s p old new → Beside gives at fl old new
emits_beside gives s p i at fl old new c other m = record {
  index = i;
  links = subst (OnCable i at fl) (sym m.links)
      (beside_put s p i at fl (option_map (sent_item p (half s old).histories) (sent_frame m.a)) old.links other c);
  calls = each_side (λ t. Elsewhere (gives t) (at t) (half t old).state (half t new).state) s
      (inr (p, Transmit p, answer.Transmit m.a, λ e. other (sym e), refl, m.promise.step)) (inl m.peers);
  logs = λ t. ap (λ g. history_at g (at t)) (m.logs t);
}

-- system s ticks once
pub record Ticked (gives : Algorithms) (s : Side) (old new : WorldState) : Type 0 where
  pub step : Step (gives s) (half s old).state Tick answer.Tick (half s new).state
  pub peers : (half (peer s) new).state ≡ (half (peer s) old).state
  pub links : new.links ≡ old.links
  pub logs : (t : Side) → (half t new).histories ≡ (half t old).histories

pub ticks : (gives : Algorithms) (n : ℕ) (s : Side) (r : Reply) (old new : WorldState) → side_of n ≡ Some s
    → WorldSteps gives old (event.Tick n 1) r new → Ticked gives s old new
ticks gives n s r old new hyp1 hyp2 = grind (arith, nat_tests, value_of, same_Some, peer_there, half_logs)
