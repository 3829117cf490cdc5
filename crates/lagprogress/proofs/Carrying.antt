-- The link of each port that carries a conversation, or on which one is held, is up.
use Rattle.lagprogress.proofs.Common.{Bool, Err, List, None, Ok, Option, Result, Some, [], ap, arith, false, if◌then◌else◌, inl, inr, length, not}
use Rattle.lagprogress.proofs.Common.{refl, subst, sym, true, ℕ, ◌&&◌, ◌==◌, ◌||◌, ◌∙◌, ◌∷◌, ◌≡◌, ◌⊎◌, and_parts, nat_tests, none-some}
use Rattle.lagprogress.proofs.Common.{slice_get_cases, slice_get_within, AggId, Choice, State, StateBits, bits_of, with_synchronization}
use Rattle.lagprogress.proofs.Common.{encode_then_decode, Side, peer, Setup, ReceiveState, PortDisabled, Machines, partner_synchronized, receive_rows}
use Rattle.lagprogress.proofs.Common.{same_receive_state, start_receive, Starts, before_start, count_down, Assignment, Free, On, is_among}
use Rattle.lagprogress.proofs.Common.{leave_result, Table, assignment_of, next_identifier, Config, HostCall, HostReply, Answer, SystemFault}
use Rattle.lagprogress.proofs.Common.{SystemPort, OffersIf, Call, Configure, Force, Move_conversation, Offer, Receive, Restart, Set_link, Step, Tick}
use Rattle.lagprogress.proofs.Common.{Transmit, changed_party, choice_with_link, call_of, IsFirst, configured_numbers, HostPromise, none_enabled}
use Rattle.lagprogress.proofs.Common.{GivesOrRefuses, in_system, ProbesAt, aggregator_numbered, distributing, SetsPort, Setting, SettingPromise}
use Rattle.lagprogress.proofs.Common.{SettingStep, Settling, IsSound, SystemState, port_index, port_numbers, TableAlone, host_alone, Step-frame}
use Rattle.lagprogress.proofs.Common.{rests, all-get, ports_rise, setting_sound, Step-sound, first_sound, Algorithms, AreFirst, IsStart, WorldState}
use Rattle.lagprogress.proofs.Common.{half, HostEvent, HostRuns, HostSteps, Plays, Sets, KeptByCall, KeptBySettling, OfEach, Step-each, first_each}
use Rattle.lagprogress.proofs.Common.{no, forces_port, AtPort, at_number, calls_each, same_place, settling_leaves, Turns, asks_turn, comes_turn}
use Rattle.lagprogress.proofs.Common.{gives_turn, same_turns, settles_turn, turns_through, RowsKeep, fires_keep, runs_keep, setting_each}
use Rattle.lagprogress.proofs.Common.{EachHostReachedHasUnsynchronized, EachHostReachedHasCarriersUp, HasPortUp, carrier_of, held_on}
use Rattle.distributor.specs.declared.fault.DistFault.{DistFault}
use Rattle.distributor.proofs.TableLemmas.{first_free}
use Rattle.lagbeside.specs.Heartbeat.{takes_down}
use Rattle.lagsystem.specs.declared.drive.HostCall.TheVariants as host
use Rattle.lagsystem.specs.declared.drive.HostReply.TheVariants as told
use Rattle.lagsystem.specs.declared.fault.SystemFault.TheVariants.{NoAggregator}
use Rattle.distributor.specs.declared.fault.DistFault.TheVariants as dist
use Rattle.lagsystem.specs.Leaving.{system_leave_result, system_rest_result}
use Rattle.portmachines.specs.Calls.{with_mode}
use Rattle.lagsystem.specs.declared.drive.Reply.TheVariants as reply
use Rattle.lagprogress.proofs.Answering.{among_port}
use Rattle.lagprogress.proofs.Freeing.{Stays, stays}
use Rattle.lagprogress.proofs.Halves.{both_first, each_is_calls}
use Rattle.lagprogress.proofs.Linked.{many, each_side}
use Rattle.lagprogress.proofs.HostSteady.{IsBeside, IsUp, aside, asked_by, caller, host_sound, setting_both}

-- the partner of a port in PORT_DISABLED is not synchronized

abbrev pub Lapses : Machines → Type 0
Lapses p = p.receive ≡ PortDisabled → partner_synchronized p ≡ false

abbrev pub LapsesAt : ℕ → Machines → Type 0
LapsesAt n p = Lapses p

not_synchronized : (st : State) → (bits_of (with_synchronization false st)).synchronization ≡ false
not_synchronized st = ap (λ (b : StateBits). b.synchronization) (encode_then_decode (record (bits_of st) { synchronization = false }))

pub receive_lapses : RowsKeep Lapses receive_rows
receive_lapses = grind (arith, nat_tests, not_synchronized)

lapse_starts : (p q : Machines) → Starts p q → Lapses q
lapse_starts p q h = subst Lapses (sym h.2) (runs_keep Lapses receive_rows receive_lapses (start_receive p) h.0 h.1 (λ e. absurd cc))

pub lapse_settles : KeptBySettling LapsesAt
lapse_settles = settling_leaves LapsesAt

pub lapse_first : (n : ℕ) (u : Setup) (q : Machines) → Starts (before_start u) q → LapsesAt n q
lapse_first n u q h = lapse_starts (before_start u) q h

pub lapse_kept : (call : Call) (answer : Answer) → KeptByCall LapsesAt call answer
lapse_kept Tick answer = λ n p q h a. runs_keep Lapses receive_rows receive_lapses (count_down p) q h a
lapse_kept (Set_link n up) answer = λ max_links p q h a. runs_keep Lapses receive_rows receive_lapses
    (record p { enabled = up; choice = choice_with_link max_links up p.choice }) q h a
lapse_kept (Receive n octets) answer = grind (arith, nat_tests, fires_keep)
lapse_kept (Configure n change) answer = λ p q h a. lapse_starts (record p { party = changed_party change p.party }) q h.1
lapse_kept Restart answer = lapse_first
lapse_kept (Transmit n) answer = λ p e a. a
lapse_kept call answer = tt

-- so a port that distributes has its link up

is_disabled : (r : ReceiveState) → same_receive_state PortDisabled r ≡ true → r ≡ PortDisabled
is_disabled r h = grind (arith, nat_tests)

must_be_up : (e d sync chosen m : Bool) → (not d && not e) ≡ false → (d ≡ true → sync ≡ false) → m ≡ true → (m && (not chosen || not sync)) ≡ false → e ≡ true
must_be_up e d sync chosen m r l i j = grind (arith, nat_tests)

pub distributes_up : (s : SystemState) (agg : AggId) (p : ℕ) → IsSound s → OfEach LapsesAt s.system_ports
    → is_among (distributing agg s.system_ports) p ≡ true → HasPortUp p s
distributes_up s agg p h lapses e = grind (arith, nat_tests, among_port, all-get, rests, receive_rows, none_enabled, must_be_up, is_disabled, and_parts)

-- a call that does not take a link down leaves it up

receive_up : RowsKeep IsUp receive_rows
receive_up = (λ p a. a, (λ p a. a, (λ p a. a, (λ p a. a, (λ p a. a, tt)))))

up_starts : (p q : Machines) → Starts p q → IsUp p → IsUp q
up_starts p q h a = subst IsUp (sym h.2) (runs_keep IsUp receive_rows receive_up (start_receive p) h.0 h.1 a)

set_up : (m p : ℕ) (up : Bool) → ((m == p) && not up) ≡ false → m ≡ p → up ≡ true
set_up m p up h e = grind (arith, nat_tests)

up_kept : (p : ℕ) (call : Call) (answer : Answer) → takes_down p call ≡ false → KeptByCall (AtPort p IsUp) call answer
up_kept p Tick answer t = λ n q r h a e. runs_keep IsUp receive_rows receive_up (count_down q) r h (a e)
up_kept p (Set_link n up) answer t = λ max_links q r h a e. runs_keep IsUp receive_rows receive_up
    (record q { enabled = up; choice = choice_with_link max_links up q.choice }) r h (set_up n p up t e)
up_kept p (Receive n octets) answer t = grind (arith, nat_tests, fires_keep)
up_kept p (Configure n change) answer t = λ q r h a e. up_starts (record q { party = changed_party change q.party }) r h.1 (a e)
up_kept p Restart answer t = absurd (no (sym t))
up_kept p (Transmit n) answer t = λ q told a e. a e
up_kept p call answer t = tt

up_from : (p : ℕ) (old new : SystemState) → IsSound old → IsSound new → new.ports ≡ old.ports
    → (OfEach (AtPort p IsUp) old.system_ports → OfEach (AtPort p IsUp) new.system_ports) → HasPortUp p old → HasPortUp p new
up_from p old new was now ports stay (k, x, there, number, up) = let each = stay
    (subst (λ n. OfEach (AtPort n IsUp) old.system_ports) number (at_number IsUp 0 old.system_ports k x (ports_rise old was.ports) there up)) in
    let numbers : port_numbers new.system_ports ≡ port_numbers old.system_ports =
    now.ports.same ∙ (ap configured_numbers ports ∙ sym was.ports.same) in
    let within = slice_get_within old.system_ports k x there in
    let one = many old.system_ports in
    let two = many new.system_ports in
    let both = ap (λ (ns : List ℕ). length ns) numbers in
    elim (slice_get_cases new.system_ports k).1 [
      | inl c ↦ (let n = same_place old.system_ports new.system_ports k x c.0 numbers there c.2 ∙ number in
          (k, c.0, c.2, n, all-get (λ (y : SystemPort). AtPort p IsUp y.number y.port) new.system_ports k c.0 c.2 each n))
      | inr c ↦ (let past = c.0 in absurd (omega (arith, within, one, two, both, past)))
    ]

-- what is held was carried before, on a port that is not taken down

abbrev HeldBefore : Call → Table → Table → Type 0
HeldBefore call t u = (g k p : ℕ) → held_on (assignment_of u g k) ≡ Some p
    → (carrier_of (assignment_of t g k) ≡ Some p) × (takes_down p call ≡ false)

by_stays : (call : Call) (t u : Table) → ((p : ℕ) → takes_down p call ≡ false) → Turns Stays stays t u → HeldBefore call t u
by_stays call t u leaves h g k p e = grind (arith, nat_tests)

first_is_free : (s : SystemState) → IsFirst s → (g k : ℕ) → assignment_of s.table g k ≡ Free None
first_is_free s h g k = ap (λ (t : Table). assignment_of t g k) h.3 ∙ first_free (length s.keys) s.conversations s.first_marker g k

held_before : (gives : ℕ → ℕ → ℕ → Type 0) (old new : SystemState) (call : Call) (answer : Answer) → Step gives old call answer new
    → (new ≡ old) ⊎ HeldBefore call old.table new.table
held_before gives old new Tick reply.Tick h = grind (arith, nat_tests)
held_before gives old new (Set_link n up) (reply.SetLink (Ok done)) h = grind (arith, nat_tests)
held_before gives old new (Set_link n up) (reply.SetLink (Err fault)) h = inl h.same
held_before gives old new (Receive n octets) (reply.Receive a) h = inr (
    by_stays (Receive n octets) old.table new.table (λ p. refl) (comes_turn Stays stays gives n octets a old new h))
held_before gives old new (Configure n change) (reply.Configure (Ok true)) h = grind (arith, nat_tests)
held_before gives old new (Configure n change) (reply.Configure (Ok false)) h = grind (arith, nat_tests)
held_before gives old new (Configure n change) (reply.Configure (Err fault)) h = grind (arith, nat_tests)
held_before gives old new Restart reply.Restart h = grind (arith, nat_tests, none-some, held_on, first_is_free)
held_before gives old new (Transmit n) (reply.Transmit a) h = inr (
    by_stays (Transmit n) old.table new.table (λ p. refl) (asks_turn Stays stays gives n a old new h))
held_before gives old new (Offer agg octets) (reply.Offer answer) h = grind (arith, nat_tests)
held_before gives old new (Move_conversation agg conv port) (reply.MoveConversation answer) h = grind (arith, nat_tests)
held_before gives old new (Force agg conv) (reply.Force answer) h = grind (arith, nat_tests)
held_before gives old new call answer h = absurd h

-- the invariant

abbrev Carries : SystemState → Type 0
Carries s = (g k p : ℕ) → carrier_of (assignment_of s.table g k) ≡ Some p → HasPortUp p s

abbrev pub Keeps : SystemState → Type 0
Keeps s = IsSound s × OfEach LapsesAt s.system_ports × Carries s

carrier_cases : (a : Assignment) (p : ℕ) → carrier_of a ≡ Some p → (held_on a ≡ Some p) ⊎ (a ≡ On p)
carrier_cases a p e = grind (arith, nat_tests)

carries_on : (new : SystemState) → IsSound new → OfEach LapsesAt new.system_ports
    → ((g k p : ℕ) → held_on (assignment_of new.table g k) ≡ Some p → HasPortUp p new) → Carries new
carries_on new sound lapses held g k p e = elim (carrier_cases (assignment_of new.table g k) p e) [
  | inl f ↦ held g k p f
  | inr f ↦ distributes_up new (aggregator_numbered g) p sound lapses (sound.carried g k p f)
]

call_keeps : (gives : ℕ → ℕ → ℕ → Type 0) (old new : SystemState) (call : Call) (answer : Answer) → Step gives old call answer new → Keeps old → Keeps new
call_keeps gives old new call answer h k = (
  sound,
  lapses,
  elim (held_before gives old new call answer h) [
    | inl e ↦ subst Carries (sym e) k.2
    | inr hb ↦ carries_on new sound lapses
        (λ g c p f. let was = hb g c p f in (up_from p old new k.0 sound (ap (λ (s : SystemState). s.ports) (Step-frame gives old call answer new h))
        (Step-each (AtPort p IsUp) (settling_leaves (AtPort p IsUp)) gives old call answer new (up_kept p call answer was.1) h)) (k.2 g c p was.0))
  ],
)
  where
    sound : IsSound new
    sound = Step-sound gives old call answer new h k.0

    lapses : OfEach LapsesAt new.system_ports
    lapses = Step-each LapsesAt lapse_settles gives old call answer new (lapse_kept call answer) h k.1

-- what holds of all ports stays so, and no conversation is held that the port did not carry
by_turns : (old new : SystemState) → IsSound new → new.ports ≡ old.ports
    → ((P : ℕ → Machines → Type 0) → KeptBySettling P → ((n : ℕ) (p : Machines) (choice : Choice) → P n p → P n (record p { choice = choice }))
    → ((n : ℕ) (p : Machines) (active short : Bool) → P n p → P n (with_mode active short p))
    → OfEach P old.system_ports → OfEach P new.system_ports)
    → ((g k p : ℕ) → held_on (assignment_of new.table g k) ≡ Some p → carrier_of (assignment_of old.table g k) ≡ Some p)
    → Keeps old → Keeps new
by_turns old new sound ports each held k = (
  sound,
  lapses,
  carries_on new sound lapses (λ g c p f. up_from p old new k.0 sound ports
      (each (AtPort p IsUp) (settling_leaves (AtPort p IsUp)) (λ n q choice a. a) (λ n q active short a. a)) (k.2 g c p (held g c p f))),
)
  where
    lapses : OfEach LapsesAt new.system_ports
    lapses = each LapsesAt lapse_settles (λ n p choice a. a) (λ n p active short a. a) k.1

stays_held : (old new : SystemState) → Turns Stays stays old.table new.table → (g k p : ℕ)
    → held_on (assignment_of new.table g k) ≡ Some p → carrier_of (assignment_of old.table g k) ≡ Some p
stays_held old new h g k p e = grind (arith, nat_tests)

-- a setting

then_settles : (old mid new : SystemState) → mid.table ≡ old.table → Settling mid new → Turns Stays stays old.table new.table
then_settles old mid new e h = turns_through Stays stays old.table mid.table new.table (same_turns Stays stays old mid e) (settles_turn Stays stays mid new h)

port_turns : (already : SystemPort → Bool) (change : SystemPort → SystemPort) (o : Option ℕ) (old new : SystemState)
    → SetsPort already change o old new → Turns Stays stays old.table new.table
port_turns already change o old new hyp1 = grind (arith, nat_tests, same_turns, stays, then_settles)

setting_turns : (old new : SystemState) (setting : Setting) (answer : Result Unit SystemFault) → SettingStep old setting answer new
    → Turns Stays stays old.table new.table
setting_turns old new setting answer hyp1 = grind (arith, nat_tests, port_turns, same_turns, stays)

pub setting_keeps : (old new : SystemState) (setting : Setting) (answer : Result Unit SystemFault) → SettingPromise old setting answer new
    → Keeps old → Keeps new
setting_keeps old new setting answer h k = by_turns old new (setting_sound old setting answer new h.step k.0) h.ports
    (λ P s chosen moded. setting_each P s chosen moded old new setting answer h.step)
    (stays_held old new (setting_turns old new setting answer h.step)) k

-- a call of a host with a data plane

alone_keeps : (old new : SystemState) → TableAlone old new → IsSound new
    → ((g k p : ℕ) → held_on (assignment_of new.table g k) ≡ Some p → carrier_of (assignment_of old.table g k) ≡ Some p) → Keeps old → Keeps new
alone_keeps old new e sound held k = by_turns old new sound (ap (λ (s : SystemState). s.ports) e)
    (λ P s chosen moded. subst (λ (s : SystemState). OfEach P s.system_ports) (sym e)) held k

offered_held : (there known : Bool) (gives : ℕ → ℕ → ℕ → Type 0) (agg : AggId) (conv : ℕ) (old : SystemState) (answer : Result ℕ SystemFault)
    (new : SystemState) → OffersIf there known gives agg conv old answer new → (g k p : ℕ)
    → held_on (assignment_of new.table g k) ≡ Some p → carrier_of (assignment_of old.table g k) ≡ Some p
offered_held there known gives agg conv old answer new h = grind (arith, nat_tests)

left_to : (b c : Bool) (r : Result Assignment DistFault) (s : Assignment)
    → (if b then in_system (if c then r else Err dist.NotAssigned) else Err NoAggregator) ≡ Ok s → r ≡ Ok s
left_to b c r s e = grind (arith, nat_tests)

left_stays : (next : Option ℕ) (a s : Assignment) → leave_result next a ≡ Ok s → Stays a s
left_stays next a s h = grind (arith, nat_tests)

probe_turn : (o : Option ℕ) (old : SystemState) (answer : Option (List ℕ)) (new : SystemState) → ProbesAt o old answer new
    → Turns Stays stays old.table new.table
probe_turn o old answer new h = grind (arith, nat_tests)

pub host_call_keeps : (gives : ℕ → ℕ → ℕ → Type 0) (old new : SystemState) (call : HostCall) (answer : HostReply)
    → HostPromise gives old call answer new → Keeps old → Keeps new
host_call_keeps gives old new (host.Call call) (told.Call answer) h k = call_keeps gives old new (call_of call) answer h.step k
host_call_keeps gives old new (host.OfferConversation agg conv) (told.OfferConversation answer) h k =
    alone_keeps old new (host_alone gives old (host.OfferConversation agg conv) (told.OfferConversation answer) new h tt)
    (host_sound gives old (host.OfferConversation agg conv) (told.OfferConversation answer) new h k.0)
    (offered_held _ _ gives agg conv old answer new h.0) k
host_call_keeps gives old new (host.LeaveConversation agg conv) (told.LeaveConversation answer) h k =
    alone_keeps old new (host_alone gives old (host.LeaveConversation agg conv) (told.LeaveConversation answer) new h tt)
    (host_sound gives old (host.LeaveConversation agg conv) (told.LeaveConversation answer) new h k.0)
    (stays_held old new (gives_turn Stays stays agg conv (system_leave_result old agg conv) old answer new
    (λ s x. left_stays (next_identifier old.table) (assignment_of old.table agg.0 conv) s (left_to _ _ _ s x)) h.0)) k
host_call_keeps gives old new (host.Probe port) (told.Probe (Ok answer)) h k =
    alone_keeps old new (host_alone gives old (host.Probe port) (told.Probe (Ok answer)) new h tt)
    (host_sound gives old (host.Probe port) (told.Probe (Ok answer)) new h k.0)
    (stays_held old new (probe_turn (port_index port old.system_ports) old answer new h.0)) k
host_call_keeps gives old new (host.Probe port) (told.Probe (Err fault)) h k = subst Keeps (sym h.0.same) k
host_call_keeps gives old new (host.Rest agg conv) (told.Rest (Ok done)) h k =
    call_keeps gives old new (Force agg conv) (reply.Force (Ok tt)) h.1.step k
host_call_keeps gives old new (host.Rest agg conv) (told.Rest (Err fault)) h k = refused (system_rest_result old agg conv) h.0
  where
    refused : (what : Result Assignment SystemFault) → GivesOrRefuses agg conv what old (Err fault) new → Keeps new
    refused (Ok state) h = absurd (let e = h.0 in cc)
    refused (Err other) h = subst Keeps (sym h.1) k
host_call_keeps gives old new (host.ForcePort port) (told.ForcePort answer) h k =
    forces_port gives Keeps (call_keeps gives) port old answer new h.1 k
host_call_keeps gives old new call answer h k = absurd h

-- both systems

abbrev BothKeep : WorldState → Type 0
BothKeep j = (s : Side) → Keeps (half s j).state

one_told : (gives : ℕ → ℕ → ℕ → Type 0) (s : Side) (call : HostCall) (old new : WorldState) → IsBeside gives s call old new → BothKeep old → BothKeep new
one_told gives s call old new b k = each_side (λ t. Keeps (half t new).state) s
    (host_call_keeps gives (half s old).state (half s new).state call b.answer b.promise (k s)) (subst Keeps (sym b.peers) (k (peer s)))

step_keeps : (gives : Algorithms) (e : HostEvent) (old new : WorldState) → HostSteps gives old e new → BothKeep old → BothKeep new
step_keeps gives (Plays e) old new x k = λ s. (let g = each_is_calls gives e x.0 old new x.1 s in
    calls_each (gives s) Keeps (call_keeps (gives s)) (half s old).state (half s new).state g.0 g.1 g.2 (k s))
step_keeps gives (Sets s setting) old new x k =
    setting_both Keeps s x.1 old new (setting_keeps (half s old).state x.1.state setting x.0 x.2.answers) x.3 k
step_keeps gives e old new x k = one_told (gives (caller e)) (caller e) (asked_by e) old new (aside gives e old new tt x) k

run_keeps : (gives : Algorithms) (es : List HostEvent) (old new : WorldState) → HostRuns gives old es new → BothKeep old → BothKeep new
run_keeps gives [] old new h k = subst BothKeep (sym h) k
run_keeps gives (e ∷ es) old new h k = run_keeps gives es h.0 new h.2 (step_keeps gives e old h.0 h.1 k)

start_keeps : (configs : List Config) (start : WorldState) → IsStart start → AreFirst configs start → BothKeep start
start_keeps configs start i h s = let first = both_first configs start h s in
    let st = (half s start).state in (
      first_sound st (i.kept s).agrees.ports first,
      first_each LapsesAt lapse_settles lapse_first st first,
      λ g k p e. absurd (none-some p (sym (ap carrier_of (first_is_free st first g k)) ∙ e)),
    )

pub host_reached_has_carriers_up : (gives : Algorithms) → EachHostReachedHasCarriersUp gives
host_reached_has_carriers_up gives configs es start new i h runs s =
    λ g k p is e. (run_keeps gives es start new runs (start_keeps configs start i h) s).2 g k p e

pub host_reached_has_unsynchronized : (gives : Algorithms) → EachHostReachedHasUnsynchronized gives
host_reached_has_unsynchronized gives configs es start new s i h runs =
    λ k x there. all-get (λ (y : SystemPort). Lapses y.port) (half s new).state.system_ports k x there
    (run_keeps gives es start new runs (start_keeps configs start i h) s).1
