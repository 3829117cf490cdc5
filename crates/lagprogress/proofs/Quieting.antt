-- What moves no port (`IsQuiet`) leaves the ports, and what their LACPDUs say.
use Rattle.lagprogress.proofs.Common.{Bool, Err, List, Ok, Option, Result, Some, [], ap, arith, false, inl, inr, map, refl, slice_get, subst, sym}
use Rattle.lagprogress.proofs.Common.{true, ℕ, ◌++◌, ◌==◌, ◌∙◌, ◌∷◌, ◌≡◌, ◌⊎◌, cases_Bool, nat_tests, Vec, AllByRecursion, AggId, Lacpdu, all-append}
use Rattle.lagprogress.proofs.Common.{One, Side, Two, peer, value_of, Machines, Table, Answer, SystemFault, SystemPort, Call, Carries, Force, IsFrame}
use Rattle.lagprogress.proofs.Common.{Move_conversation, Offer, Step, TableRun, Transmit, system_move_result, Set_max_delay, SystemState, port_index}
use Rattle.lagprogress.proofs.Common.{with_system_ports, with_table, Step-frame, becomes_slots, offers_slots, Event, Reply, AfterOffer, Algorithms}
use Rattle.lagprogress.proofs.Common.{InHalf, WorldRuns, WorldSteps, offered_item, side_of, with_frame_counted, HalfForces, HalfMoves, link_ends}
use Rattle.lagprogress.proofs.Common.{HalfState, ItemValue, LinkState, WorldState, half, put_on_port, with_half, put_ends, half_there, HostEvent}
use Rattle.lagprogress.proofs.Common.{HostSteps, Plays, Sets, KeptBySettling, OfEach, AtPort, calls_each, LeavesPorts, Clearing, IsBetweenTicks}
use Rattle.lagprogress.proofs.Common.{IsPlayed, IsPlayedAmong, IsQuiet, StepReplies, TickOnce, TickOnceAmong, IsSteady}
use Rattle.lagprogress.proofs.Linked.{events_each, each_side, EndIs, Flying, HasLacpdu, IsGood, Link, end_kept, has_on, of_end, place_kept}
use Rattle.lagprogress.proofs.Linked.{push_other, push_there}
use native.Mathlib.Omega.{arith}
use Rattle.lagprogress.proofs.OneCable.{Comes, came_off, OnCable, half_logs, push, put_beside, puts}
use Rattle.lagprogress.proofs.HostSteady.{IsUp, Quietly, SendsPlain, aside, caller, beside_quietly, delay_quietly, delay_keeps, aside_keeps}
use Rattle.lagprogress.proofs.HostSteady.{sets_each, sets_links, sets_logs, sets_place, step_timely, asked_by}
use Rattle.lagprogress.proofs.EndFacts.{Along}
use Rattle.lagprogress.proofs.Halves.{AreTimely, each_is_calls, keeps_steady, timely, forced_state}
use Rattle.lagprogress.proofs.ArrivingLemmas.{is_data, same_ports}
use Rattle.lagsystem.specs.declared.drive.Reply.TheVariants as answer
use Rattle.lagscript.specs.declared.event.Event.TheVariants as event
use Rattle.slowpdu.specs.declared.pdu.Pdu.TheVariants as pdu

-- What no event of a world changes.

module _ (X : Type 0) (g : SystemState → X)
    (kept : (s : SystemState) (ports : List SystemPort) (t : Table) → g (with_table (with_system_ports s ports) t) ≡ g s) where
  one_kept : (gives : ℕ → ℕ → ℕ → Type 0) (was : X) (old new : SystemState) (call : Call) (answer : Answer) → Step gives old call answer new
      → g old ≡ was → g new ≡ was
  one_kept gives was old new call answer step e = ap g (Step-frame gives old call answer new step) ∙ (kept old new.system_ports new.table ∙ e)

  pub calls_keep : (gives : ℕ → ℕ → ℕ → Type 0) (old new : SystemState) (calls : List Call) (replies : List Answer)
      → TableRun gives old calls replies new → g new ≡ g old
  calls_keep gives old new calls replies h = calls_each gives (λ s. g s ≡ g old) (one_kept gives (g old)) old new calls replies h refl

  pub events_keep : (gives : Algorithms) (es : List Event) (rs : List Reply) (old new : WorldState) → WorldRuns gives old es rs new
      → (s : Side) → g (half s new).state ≡ g (half s old).state
  events_keep gives es rs old new h s = let was = g (half s old).state in
      events_each gives s (λ t. g t ≡ was) (one_kept (gives s) was) es rs old new h refl

one_half : (s t : Side) (h : HalfState) (j : WorldState) → h.state.system_ports ≡ (half s j).state.system_ports
    → (half t (with_half s h j)).state.system_ports ≡ (half t j).state.system_ports
one_half s t h j e = grind (arith, nat_tests)

half_links : (s : Side) (h : HalfState) (j : WorldState) → (with_half s h j).links ≡ j.links
half_links s h j = grind (arith, nat_tests)

offered : (gives : Algorithms) (s : Side) (agg : AggId) (octets : List ℕ) (a : Result ℕ SystemFault) (old new : WorldState) (mid : HalfState)
    (r : Reply) → Step (gives s) (half s old).state (Offer agg octets) (answer.Offer a) mid.state
    → mid.histories ≡ (half s old).histories → AfterOffer s agg octets a (with_half s mid old) r (record new { acted = old.acted }) → Quietly s old new
offered gives s agg octets (Err fault) old new mid r h log after = grind (arith, nat_tests, one_half, s, offers_slots, half_links, half_logs)
offered gives s agg octets (Ok port) old new mid r h log after = let j = with_half s mid old in
    record {
      same = λ t. ap (λ (w : WorldState). (half t w).state.system_ports) after.2
          ∙ same_ports s t mid (with_frame_counted agg octets (half s j)) old
          (offers_slots (gives s) agg octets (half s old).state (Ok port) mid.state h)
          (ap (λ (k : HalfState). k.state.system_ports) (half_there s mid old));
      links = inr (record {
        port = port;
        item = offered_item s port agg octets (half s j);
        plain = λ x c. (is_data octets h.0.1).1 c.0.1;
        sent = ap (λ (w : WorldState). w.links) after.2
            ∙ ap (put_on_port s port (offered_item s port agg octets (half s j)))
            (half_links s (with_frame_counted agg octets (half s j)) j ∙ half_links s mid old);
      });
      logs = λ t. ap (λ (w : WorldState). (half t w).histories) after.2
          ∙ (half_logs s (with_frame_counted agg octets (half s j)) j refl t ∙ half_logs s mid old log t);
    }

pub quietly : (gives : Algorithms) (e : HostEvent) (r : Reply) (old new : WorldState) → IsQuiet e → StepReplies gives old e r new
    → (s : Side) × Quietly s old new
quietly gives (Plays (event.Offer n agg octets)) r old new q h = let v = value_of (side_of n) _ h.0 in
    let w = v.2 in (v.0, offered gives v.0 agg octets.items w.0 old new w.1 r w.2.answers.step (ap (λ (k : HalfState). k.histories) w.2.same) w.3)
quietly gives (Plays (event.Move n agg conv p)) r old new q h = grind (arith, nat_tests, value_of, side_of, half, becomes_slots, system_move_result, one_half, half_links, half_logs)
quietly gives (Plays (event.Force n agg conv)) r old new q h = grind (arith, nat_tests)
quietly gives (Plays e) r old new q h = absurd q
quietly gives (Sets s (Set_max_delay delay)) r old new q h = (s, delay_quietly gives s delay old new h)
quietly gives (Sets s setting) r old new q h = absurd q
quietly gives e r old new q h = (caller e, beside_quietly (gives (caller e)) (caller e) (asked_by e) old new (aside gives e old new tt h))

pub quiet_ports : (gives : Algorithms) (e : HostEvent) (r : Reply) (old new : WorldState) → IsQuiet e → StepReplies gives old e r new → (t : Side)
    → (half t new).state.system_ports ≡ (half t old).state.system_ports
quiet_ports gives e r old new q h = (quietly gives e r old new q h).1.same

pub quiet_logs : (gives : Algorithms) (e : HostEvent) (r : Reply) (old new : WorldState) → IsQuiet e → StepReplies gives old e r new → (t : Side)
    → (half t new).histories ≡ (half t old).histories
quiet_logs gives e r old new q h = (quietly gives e r old new q h).1.logs

-- what a round may have of events, calls and settings: the systems stay steady, the ports where they are, and what is configured

abbrev pub IsCalm : HostEvent → Type 0
IsCalm (Plays e) = Unit {0}
IsCalm e = IsQuiet e

pub calm_quiet : (e : HostEvent) → IsQuiet e → IsCalm e
calm_quiet e q = grind (arith, nat_tests)

pub calm_between : (e : HostEvent) → IsBetweenTicks e → IsCalm e
calm_between e b = grind (arith, nat_tests)

as_step : (gives : Algorithms) (e : HostEvent) (r : Reply) (old new : WorldState) → StepReplies gives old e r new → HostSteps gives old e new
as_step gives e r old new h = grind (arith, nat_tests)

pub calm_timely : (gives : Algorithms) (e : HostEvent) (r : Reply) (old new : WorldState) → StepReplies gives old e r new → AreTimely old → AreTimely new
calm_timely gives e r old new h k = step_timely gives e old new (as_step gives e r old new h) k

pub calm_steady : (gives : Algorithms) (e : HostEvent) (r : Reply) (old new : WorldState) → IsCalm e → StepReplies gives old e r new
    → IsSteady old → IsSteady new
calm_steady gives (Plays e) r old new c h k = keeps_steady gives e r old new h k
calm_steady gives e r old new c h k = λ s.
    (let t = calm_timely gives e r old new h (timely old k) s in (
      t.0,
      t.1,
      subst (λ ports. AllByRecursion (λ (x : SystemPort). x.held ≡ false) ports) (sym (quiet_ports gives e r old new c h s)) (k s).2,
    ))

-- each port stays in its place
pub place_stays : (gives : Algorithms) (e : HostEvent) (r : Reply) (old new : WorldState) → StepReplies gives old e r new → AreTimely old
    → AreTimely new → (s : Side) (n : ℕ) → port_index n (half s new).state.system_ports ≡ port_index n (half s old).state.system_ports
place_stays gives (Plays e) r old new h a b s n = place_kept gives e r old new h a b s n
place_stays gives (Sets t setting) r old new h a b s n = sets_place gives t setting old new h a b s n
place_stays gives e r old new h a b s n = ap (port_index n) (quiet_ports gives e r old new tt h s)

module _ (X : Type 0) (g : SystemState → X)
    (kept : (s : SystemState) (ports : List SystemPort) (t : Table) → g (with_table (with_system_ports s ports) t) ≡ g s)
    (tables : (s : SystemState) (t : Table) → g (with_table s t) ≡ g s) (delays : (s : SystemState) (d : ℕ) → g (record s { max_delay = d }) ≡ g s) where
  pub calm_keeps : (gives : Algorithms) (e : HostEvent) (r : Reply) (old new : WorldState) → IsCalm e → StepReplies gives old e r new → (t : Side)
      → g (half t new).state ≡ g (half t old).state
  calm_keeps gives (Plays e) r old new c h t = let k = each_is_calls gives e r old new h t in
      calls_keep X g kept (gives t) (half t old).state (half t new).state k.0 k.1 k.2
  calm_keeps gives (Sets s (Set_max_delay delay)) r old new c h t = delay_keeps X g delays gives s delay old new h t
  calm_keeps gives (Sets s setting) r old new c h t = absurd c
  calm_keeps gives e r old new c h t = aside_keeps X g tables gives e old new tt h t

-- what it leaves of a cable

pub record Quieted (d : ℕ) (at : Side → ℕ) (w : Side → Lacpdu) (c : Side → ℕ) (x : Side) (Y : Machines → Type 0) (fl : Side → List ItemValue)
    (new : WorldState) : Type 0 where
  pub link : Link d at w c x Y new
  pub flying : (t : Side) → Flying (fl t) → Flying (link.flying t)
  pub grew : (t : Side) → (link.flying t ≡ fl t)
      ⊎ ((item : ItemValue) × ((x : Lacpdu) → IsFrame item.octets (Carries (pdu.Lacpdu x)) → ⊥) × (link.flying t ≡ fl t ++ item ∷ []))

-- what leaves the ends of a cable: what moves no port, and the settings of other ports

abbrev pub LeavesEnds : (Side → ℕ) → HostEvent → Type 0
LeavesEnds at (Sets s setting) = LeavesPorts at (Sets s setting)
LeavesEnds at e = IsQuiet e

pub leaves_quiet : (at : Side → ℕ) (e : HostEvent) → IsQuiet e → LeavesEnds at e
leaves_quiet at e q = grind (arith, nat_tests)

pub ends_up : (d : ℕ) (at : Side → ℕ) (w : Side → Lacpdu) (c : Side → ℕ) (x : Side) (Y : Machines → Type 0) (j : WorldState) → Link d at w c x Y j
    → (t : Side) → OfEach (AtPort (at t) IsUp) (half t j).state.system_ports
ends_up d at w c x Y j l t = of_end l t IsUp (λ p rest timed a. a.0.1.0)

-- of an end whose link is up, what settling keeps
pub leaves_each : (gives : Algorithms) (e : HostEvent) (at : Side → ℕ) (r : Reply) (old new : WorldState) → LeavesEnds at e → StepReplies gives old e r new
    → (P : Machines → Type 0) (t : Side) → KeptBySettling (AtPort (at t) P) → OfEach (AtPort (at t) IsUp) (half t old).state.system_ports
    → OfEach (AtPort (at t) P) (half t old).state.system_ports → OfEach (AtPort (at t) P) (half t new).state.system_ports
leaves_each gives (Sets s setting) at r old new q h P t k up p = sets_each gives s setting old new h at q P t k up p
leaves_each gives e at r old new q h P t k up p = subst (OfEach (AtPort (at t) P)) (sym (quiet_ports gives e r old new q h t)) p

pub leaves_logs : (gives : Algorithms) (e : HostEvent) (at : Side → ℕ) (r : Reply) (old new : WorldState) → LeavesEnds at e
    → StepReplies gives old e r new → (t : Side) → (half t new).histories ≡ (half t old).histories
leaves_logs gives e at r old new q h t = grind (arith, nat_tests, sets_logs, quiet_logs)

-- what becomes of any cable
pub record Grown (i : ℕ) (at : Side → ℕ) (fl : Side → List ItemValue) (new : WorldState) : Type 0 where
  pub flying : Side → List ItemValue
  pub on : OnCable i at flying new.links
  pub grew : (t : Side) → (flying t ≡ fl t)
      ⊎ ((item : ItemValue) × ((x : Lacpdu) → IsFrame item.octets (Carries (pdu.Lacpdu x)) → ⊥) × (flying t ≡ fl t ++ item ∷ []))

pub quiet_cable : (gives : Algorithms) (e : HostEvent) (i : ℕ) (at : Side → ℕ) (fl : Side → List ItemValue) (r : Reply) (old new : WorldState)
    → IsQuiet e → StepReplies gives old e r new → OnCable i at fl old.links → Grown i at fl new
quiet_cable gives e i at fl r old new q h c = by_links k.links
  where
    s : Side
    s = (quietly gives e r old new q h).0

    k : Quietly s old new
    k = (quietly gives e r old new q h).1

    same_items : OnCable i at fl new.links → Grown i at fl new
    same_items on = record { flying = fl; on = on; grew = λ t. inl refl }

    by_links : (new.links ≡ old.links) ⊎ SendsPlain s old new → Grown i at fl new
    by_links (inl e) = same_items (subst (OnCable i at fl) (sym e) c)
    by_links (inr m) = elim (cases_Bool (at s == m.port)) [
      | inl t ↦ (let port : m.port ≡ at s = grind (arith, nat_tests) in record {
        flying = push (peer s) m.item fl;
        on = subst (OnCable i at (push (peer s) m.item fl)) (sym (m.sent ∙ ap (λ p. put_on_port s p m.item old.links) port))
            (puts s i at fl m.item old.links c);
        grew = λ t. each_side (λ u. (push (peer s) m.item fl u ≡ fl u) ⊎ ((item : ItemValue)
            × ((x : Lacpdu) → IsFrame item.octets (Carries (pdu.Lacpdu x)) → ⊥) × (push (peer s) m.item fl u ≡ fl u ++ item ∷ []))) s
            (inl (push_other s m.item fl)) (inr (m.item, m.plain, push_there (peer s) m.item fl)) t;
      })
      | inr f ↦ (let other : at s ≡ m.port → ⊥ = grind (arith, nat_tests) in
          same_items (subst (OnCable i at fl) (sym m.sent) (put_beside s m.port i at fl m.item old.links other c)))
    ]

pub quiet_ends : (gives : Algorithms) (e : HostEvent) (r : Reply) (old new : WorldState) → IsQuiet e → StepReplies gives old e r new
    → map link_ends new.links ≡ map link_ends old.links
quiet_ends gives e r old new hyp1 hyp2 = grind (arith, nat_tests, map, put_ends)

pub leaves_cable : (gives : Algorithms) (e : HostEvent) (i : ℕ) (at : Side → ℕ) (fl : Side → List ItemValue) (r : Reply) (old new : WorldState)
    → LeavesEnds at e → StepReplies gives old e r new → OnCable i at fl old.links → Grown i at fl new
leaves_cable gives (Sets s setting) i at fl r old new q h c =
    record { flying = fl; on = subst (OnCable i at fl) (sym (sets_links gives s setting old new h)) c; grew = λ t. inl refl }
leaves_cable gives e i at fl r old new q h c = quiet_cable gives e i at fl r old new q h c

pub leaves_link : (gives : Algorithms) (e : HostEvent) (d : ℕ) (at : Side → ℕ) (w : Side → Lacpdu) (c : Side → ℕ) (x : Side)
    (Y : Machines → Type 0) (r : Reply) (old new : WorldState) → LeavesEnds at e → StepReplies gives old e r new → Along Y (w x) (w (peer x)) (c x) d
    → (l : Link d at w c x Y old) → Quieted d at w c x Y l.flying new
leaves_link gives e d at w c x Y r old new q h along l = let g = leaves_cable gives e l.index at l.flying r old new q h l.links in
    let steady = calm_timely gives e r old new h l.steady in
    record {
      link = record {
        steady = steady;
        flying = g.flying;
        index = l.index;
        links = g.on;
        good = λ t. elim (g.grew t) [
          | inl e ↦ subst (AllByRecursion (IsGood d w t)) (sym e) (l.good t)
          | inr e ↦ subst (AllByRecursion (IsGood d w t)) (sym e.2)
              (all-append (IsGood d w t) (l.flying t) (e.0 ∷ []) (l.good t) ((λ v c. absurd (e.1 v c)), tt))
        ];
        place = λ t. ((l.place t).0, place_stays gives e r old new h l.steady steady t (at t) ∙ (l.place t).1);
        ports = λ t. leaves_each gives e at r old new q h (EndIs d w c x Y t) t (end_kept w c d x Y along t (at t)) (ends_up d at w c x Y old l t)
            (l.ports t);
      };
      flying = λ t f. elim (g.grew t) [
        | inl e ↦ subst Flying (sym e) f
        | inr e ↦ subst Flying (sym e.2) (has_on HasLacpdu (l.flying t) (e.0 ∷ []) f)
      ];
      grew = g.grew;
    }

pub leaves_ends : (gives : Algorithms) (e : HostEvent) (at : Side → ℕ) (r : Reply) (old new : WorldState) → LeavesEnds at e
    → StepReplies gives old e r new → map link_ends new.links ≡ map link_ends old.links
leaves_ends gives e at r old new q h = grind (arith, nat_tests, map, link_ends, sets_links, quiet_ends)

-- what comes between ticks may come beside any ports, so the rounds that hosts play are such

pub leaves : (at : Side → ℕ) (e : HostEvent) → IsBetweenTicks e → LeavesPorts at e
leaves at e b = grind (arith, nat_tests)

leaves_all : (at : Side → ℕ) (s : Side) (a b : Bool) (es : List HostEvent) → TickOnce s a b es → TickOnceAmong (LeavesPorts at) s a b es
leaves_all at s a b [] h = h
leaves_all at s a b (e ∷ es) (inl h) = inl (h.0, h.1, leaves_all at s false b es h.2)
leaves_all at s a b (e ∷ es) (inr (inl h)) = inr (inl (h.0, h.1, leaves_all at s a false es h.2))
leaves_all at s a b (e ∷ es) (inr (inr h)) = inr (inr (leaves at e h.0, leaves_all at s a b es h.1))

-- a round beside these ports
abbrev pub PlayedBeside : (Side → ℕ) → Clearing → Algorithms → WorldState → WorldState → Type 0
PlayedBeside at E gives old new = IsPlayedAmong (LeavesPorts at) E gives old new

-- a round is one of another kind, too, if its events may come there and the cables are cleared as that wants it
pub replayed : {May New : HostEvent → Type 0} {E F : Clearing} {gives : Algorithms} {old new : WorldState} (q : IsPlayedAmong May E gives old new)
    → TickOnceAmong New One true true q.events → F q.events old new → IsPlayedAmong New F gives old new
replayed q ticks clears = grind (arith, nat_tests)

pub as_beside : (at : Side → ℕ) (E : Clearing) (gives : Algorithms) (old new : WorldState) → IsPlayed E gives old new → PlayedBeside at E gives old new
as_beside at E gives old new h = replayed h (leaves_all at One true true h.events h.ticks) h.empties

-- an Offer event leaves a system to itself, or offers it the frame

offer_of : (s t : Side) (agg : AggId) (octets : List ℕ) (a : Result ℕ SystemFault) (mid : HalfState) (r : Reply) (old new : WorldState)
    → AfterOffer s agg octets a (with_half s mid old) r (record new { acted = old.acted })
    → ((half t new).state ≡ (half t old).state) ⊎ ((s ≡ t) × ((half t new).state ≡ mid.state))
offer_of One One agg octets (Err fault) mid r old new h = inr (refl, ap (λ (w : WorldState). w.one.state) h.1)
offer_of One One agg octets (Ok port) mid r old new h = inr (refl, ap (λ (w : WorldState). w.one.state) h.2)
offer_of One Two agg octets (Err fault) mid r old new h = inl (ap (λ (w : WorldState). w.two.state) h.1)
offer_of One Two agg octets (Ok port) mid r old new h = inl (ap (λ (w : WorldState). w.two.state) h.2)
offer_of Two One agg octets (Err fault) mid r old new h = inl (ap (λ (w : WorldState). w.one.state) h.1)
offer_of Two One agg octets (Ok port) mid r old new h = inl (ap (λ (w : WorldState). w.one.state) h.2)
offer_of Two Two agg octets (Err fault) mid r old new h = inr (refl, ap (λ (w : WorldState). w.two.state) h.1)
offer_of Two Two agg octets (Ok port) mid r old new h = inr (refl, ap (λ (w : WorldState). w.two.state) h.2)

pub offered_half : (gives : Algorithms) (n : ℕ) (agg : AggId) (octets : Vec ℕ) (r : Reply) (old new : WorldState)
    → WorldSteps gives old (event.Offer n agg octets) r new → (t : Side)
    → ((half t new).state ≡ (half t old).state) ⊎ ((a : Result ℕ SystemFault)
    × Step (gives t) (half t old).state (Offer agg octets.items) (answer.Offer a) (half t new).state)
offered_half gives n agg octets r old new h t = let v = value_of (side_of n) _ h.0 in
    elim (offer_of v.0 t agg octets.items v.2.0 v.2.1 r old new v.2.3) [
      | inl same ↦ inl same
      | inr (is, e) ↦ inr (
        v.2.0,
        subst (λ (y : SystemState). Step (gives t) (half t old).state (Offer agg octets.items) (answer.Offer v.2.0) y) (sym e)
            (subst (λ (u : Side). Step (gives u) (half u old).state (Offer agg octets.items) (answer.Offer v.2.0) v.2.1.state) is v.2.2.answers.step),
      )
    ]

-- what one system does, in the eyes of either
half_of : (R : Side → HalfState → HalfState → Type 0) (s t : Side) (old new : WorldState)
    → InHalf s (R s) old (record new { acted = old.acted }) → ((half t new).state ≡ (half t old).state) ⊎ ((s ≡ t) × R t (half t old) (half t new))
half_of R One One old new m = inr (refl, m.0)
half_of R One Two old new m = inl (ap (λ (w : WorldState). w.two.state) m.1)
half_of R Two One old new m = inl (ap (λ (w : WorldState). w.one.state) m.1)
half_of R Two Two old new m = inr (refl, m.0)

-- a Move event leaves a system to itself, or asks it to move the conversation
pub moved_half : (gives : Algorithms) (n : ℕ) (agg : AggId) (conv p : ℕ) (r : Reply) (old new : WorldState)
    → WorldSteps gives old (event.Move n agg conv p) r new → (t : Side)
    → ((half t new).state ≡ (half t old).state) ⊎ ((side_of n ≡ Some t) × (a : Result Unit SystemFault)
    × Step (gives t) (half t old).state (Move_conversation agg conv p) (answer.MoveConversation a) (half t new).state)
moved_half gives n agg conv p r old new h t = let v = value_of (side_of n) _ h.0 in
    elim (half_of (λ s x y. HalfMoves (gives s) agg conv p x r y) v.0 t old new v.2) [
      | inl same ↦ inl same
      | inr (is, m) ↦ inr (v.1 ∙ ap (λ (s : Side). Some s) is, m.0, m.1.answers.step)
    ]

-- a Force event leaves a system to itself, or asks it to force the conversation
pub forced_half : (gives : Algorithms) (n : ℕ) (agg : AggId) (conv : ℕ) (r : Reply) (old new : WorldState)
    → WorldSteps gives old (event.Force n agg conv) r new → (t : Side)
    → ((half t new).state ≡ (half t old).state) ⊎ ((side_of n ≡ Some t) × (a : Result Unit SystemFault)
    × Step (gives t) (half t old).state (Force agg conv) (answer.Force a) (half t new).state)
forced_half gives n agg conv r old new h t = let v = value_of (side_of n) _ h.0 in
    elim (half_of (λ s x y. HalfForces (gives s) agg conv x r y) v.0 t old new v.2) [
      | inl same ↦ inl same
      | inr (is, m) ↦ inr (
        v.1 ∙ ap (λ (s : Side). Some s) is,
        m.0,
        subst (λ (y : SystemState). Step (gives t) (half t old).state (Force agg conv) (answer.Force m.0) y)
            (sym (ap (λ (x : HalfState). x.state) m.4 ∙ forced_state m.0 agg conv m.1)) m.2.answers.step,
      )
    ]

-- What the events of a round are to one of the systems.

-- an Emit event leaves a system to itself, or asks a port of it
pub asked_half : (gives : Algorithms) (n p : ℕ) (r : Reply) (old new : WorldState) → WorldSteps gives old (event.Emit n p) r new → (t : Side)
    → ((half t new).state ≡ (half t old).state) ⊎ ((a : Result (Option (List ℕ)) SystemFault)
    × Step (gives t) (half t old).state (Transmit p) (answer.Transmit a) (half t new).state)
asked_half gives n p r old new h = grind arith

-- a Deliver event leaves a system to itself, or brings the first item of a cable to a port of it
pub came_half : (gives : Algorithms) (c n : ℕ) (r : Reply) (old new : WorldState) → WorldSteps gives old (event.Deliver c n) r new → (t : Side)
    → ((half t new).state ≡ (half t old).state) ⊎ ((k : ℕ) × (l : LinkState) × (slice_get old.links k ≡ Some l) × Comes gives t k l old new)
came_half gives c n r old new h t = grind (arith, came_off, each_side, half, slice_get)
