-- The run: one port with Long Timeout, one aggregator; its link goes up, one LACPDU of another system comes, and 20 ticks pass.
use Rattle.std.proofs.Common.{Bool, List, None, Ok, [], ap, arith, false, inl, inr, refl, replicate, subst, suc, sym, true, zero, ℕ}
use Rattle.std.proofs.Common.{◌&&◌, ◌+◌, ◌-◌, ◌<◌, ◌==◌, ◌∷◌, ◌≡◌, ◌≢◌, ◌≤◌}
use Rattle.std.proofs.lemmas.Bool.{true≢false}
use Rattle.std.proofs.lemmas.Bool.Decides.{nat_tests}
use Rattle.lagtypes.specs.declared.identifiers.AggId.{AggId}
use Rattle.lagtypes.specs.declared.identifiers.Key.{Key}
use Rattle.lagtypes.specs.declared.identifiers.SystemId.{SystemId}
use Rattle.lagtypes.specs.declared.party.Choice.TheVariants.{Selected, Unselected}
use Rattle.lagtypes.specs.declared.party.Party.{Party}
use Rattle.slowpdu.specs.declared.pdu.Info.{Info}
use Rattle.slowpdu.specs.declared.pdu.Lacpdu.{Lacpdu}
use Rattle.slowpdu.specs.declared.pdu.Pdu.{Pdu}
use Rattle.slowpdu.specs.declared.pdu.Pdu.TheVariants as pdu
use Rattle.slowpdu.specs.Layout.{AreOctets, IsAddress}
use Rattle.slowpdu.specs.Lacpdus.{Reads}
use Rattle.slowpdu.specs.Parties.{party_of}
use Rattle.slowpdu.proofs.PduLemmas.{one_pdu}
use Rattle.portmachines.specs.declared.mux.MuxState.TheVariants.{Attached, CollectingDistributing, Detached, Waiting}
use Rattle.portmachines.specs.declared.periodic.PeriodicState.TheVariants.{Fast, NoPeriodic, Slow}
use Rattle.portmachines.specs.declared.receive.ReceiveState.TheVariants.{Current, Expired, PortDisabled}
use Rattle.portmachines.specs.Machines.{Machines}
use Rattle.portmachines.specs.Mux.{mux_rows}
use Rattle.portmachines.specs.Periodic.{RunsPeriodic, periodic_rows}
use Rattle.portmachines.specs.Receive.{receive_rows, start_receive}
use Rattle.portmachines.specs.Rows.{AtRest, RunsToRest}
use Rattle.portmachines.specs.Start.{Starts, before_start}
use Rattle.portmachines.specs.Transmit.{count_down}
use Rattle.distributor.specs.declared.assignment.Assignment.{Assignment}
use Rattle.distributor.specs.Changes.{ChangesAssignments, after_tick}
use Rattle.distributor.specs.Conversations.{assignment_of, first_table}
use Rattle.distributor.proofs.TableLemmas.{first_free}
use Rattle.lagsystem.specs.declared.config.PortConfig.{PortConfig}
use Rattle.lagsystem.specs.declared.drive.Reply.TheVariants as reply
use Rattle.lagsystem.specs.declared.received.Received.TheVariants.{TookLacpdu}
use Rattle.lagsystem.specs.declared.system_ports.SystemPort.{SystemPort}
use Rattle.lagsystem.specs.Calls.{Carries, IsFrame, Receive, Set_link, Step, TableRun, Tick, Ticks}
use Rattle.lagsystem.specs.First.{IsFirst, setup_of}
use Rattle.lagsystem.specs.Readers.{aggregator_numbered, distributing}
use Rattle.lagsystem.specs.Settling.{ChoosesIn, HoldsConversations, Settling, held_unless_on, ready_of}
use Rattle.lagsystem.specs.Sound.{HasPorts, IsSound}
use Rattle.lagsystem.specs.State.{SystemState}
use Rattle.lagsystem.specs.Views.{views}
use Rattle.lagsystem.proofs.Sound.{Step-sound, first_sound}
use Rattle.lagbeside.specs.Heartbeat.{EachCall}
use Rattle.lagbeside.specs.Runs.{LeavesPort, OnceTicked, Runs}
use Rattle.lagbeside.specs.Selecting.{StandsByFull}
use Rattle.lagbeside.specs.Serving.{Fed, LeavesServed, NoneBegins, Serves, Service}
use Rattle.law_can_carry.specs.Carrying.{ComesToCarry}

-- the configuration

abbrev pub key₁ : Key
key₁ = record { 0 = 1 }

abbrev pub agg₁ : AggId
agg₁ = record { 0 = 1 }

-- the own parameters of port 1 of a system
abbrev pub own : SystemId → Party
own id = record { system = id; key = record { 0 = 1 }; port = record { priority = 128; number = 1 }; aggregatable = true }

abbrev pub near : SystemId
near = record { priority = 32768; mac = 2 ∷ 0 ∷ 0 ∷ 0 ∷ 0 ∷ 1 ∷ [] }

abbrev pub config : PortConfig
config = record {
  number = 1;
  priority = 128;
  mac = 2 ∷ 0 ∷ 0 ∷ 0 ∷ 0 ∷ 17 ∷ [];
  key = record { 0 = 1 };
  aggregatable = true;
  active = true;
  short = false;
}

abbrev pub port_with : Machines → SystemPort
port_with m = record { number = 1; mac = 2 ∷ 0 ∷ 0 ∷ 0 ∷ 0 ∷ 17 ∷ []; port = m; held = false }

abbrev pub system : SystemId → Machines → SystemState
system id m = record {
  system = id;
  max_delay = 0;
  first_marker = 1;
  conversations = 256;
  keys = key₁ ∷ [];
  max_links = None;
  in_use = true ∷ [];
  ports = config ∷ [];
  system_ports = port_with m ∷ [];
  table = first_table 1 256 1;
}

-- the LACPDU that comes: its Actor is active, aggregatable and in sync, with Long Timeout, and it names the port

abbrev actor : Info
actor = record {
  system = record { priority = 100; mac = 2 ∷ 0 ∷ 0 ∷ 0 ∷ 0 ∷ 2 ∷ [] };
  key = record { 0 = 7 };
  port = record { priority = 128; number = 5 };
  state = record { 0 = 13 };
}

abbrev partner : Info
partner = record {
  system = record { priority = 32768; mac = 2 ∷ 0 ∷ 0 ∷ 0 ∷ 0 ∷ 1 ∷ [] };
  key = record { 0 = 1 };
  port = record { priority = 128; number = 1 };
  state = record { 0 = 5 };
}

abbrev lacpdu : Lacpdu
lacpdu = record { actor = actor; partner = partner; max_delay = 0 }

abbrev payload : List ℕ
payload = 1 ∷ 1 ∷ 1 ∷ 20 ∷ 0 ∷ 100 ∷ 2 ∷ 0 ∷ 0 ∷ 0 ∷ 0 ∷ 2 ∷ 0 ∷ 7 ∷ 0 ∷ 128 ∷ 0 ∷ 5 ∷ 13 ∷ 0 ∷ 0 ∷ 0
    ∷ 2 ∷ 20 ∷ 128 ∷ 0 ∷ 2 ∷ 0 ∷ 0 ∷ 0 ∷ 0 ∷ 1 ∷ 0 ∷ 1 ∷ 0 ∷ 128 ∷ 0 ∷ 1 ∷ 5 ∷ 0 ∷ 0 ∷ 0
    ∷ 3 ∷ 16 ∷ 0 ∷ 0 ∷ replicate 64 0

abbrev pub frame : List ℕ
frame = 1 ∷ 128 ∷ 194 ∷ 0 ∷ 0 ∷ 2 ∷ 2 ∷ 0 ∷ 0 ∷ 0 ∷ 0 ∷ 34 ∷ 136 ∷ 9 ∷ payload

-- the machines of the port: as it starts, with its link down, with its link up, and behind the LACPDU

abbrev begun : SystemId → Machines
begun id = record {
  party = own id;
  active = true;
  short = false;
  enabled = false;
  receive = PortDisabled;
  current_while = 0;
  partner = record { system = record { priority = 0; mac = 0 ∷ 0 ∷ 0 ∷ 0 ∷ 0 ∷ 0 ∷ [] }; key = record { 0 = 0 }; port = record { priority = 0; number = 0 }; state = record { 0 = 0 } };
  defaulted = true;
  expired = false;
  periodic = NoPeriodic;
  periodic_timer = 0;
  mux = Detached;
  wait_while = 0;
  choice = Unselected;
  ntt = true;
  ages = [];
}

abbrev pub down : SystemId → Machines
down id = record (begun id) { ntt = false }

abbrev raised : SystemId → Machines
raised id = record (begun id) {
  enabled = true;
  receive = Expired;
  current_while = 30;
  partner = record { system = record { priority = 0; mac = 0 ∷ 0 ∷ 0 ∷ 0 ∷ 0 ∷ 0 ∷ [] }; key = record { 0 = 0 }; port = record { priority = 0; number = 0 }; state = record { 0 = 2 } };
  expired = true;
  ntt = false;
}

abbrev pub lifted : SystemId → Machines
lifted id = record (raised id) { periodic = Fast; periodic_timer = 10 }

-- SELECTED or not, in this state of the mux machine, with these ticks left
abbrev hears : Machines
hears = record (lifted near) { receive = Current; current_while = 900; partner = actor; defaulted = false; expired = false }

abbrev chose : Machines
chose = record hears { choice = Selected agg₁ }

abbrev pub waiting : ℕ → ℕ → ℕ → Machines
waiting c p w = record chose { current_while = c; periodic = Slow; periodic_timer = p; mux = Waiting; wait_while = w }

abbrev pub carrying : Machines
carrying = record (waiting 880 280 0) { mux = CollectingDistributing; ntt = true }

-- with so many ticks of wait_while left
abbrev pub later : ℕ → Machines
later zero = carrying
later (suc k) = waiting (suc k + 880) (suc k + 280) (suc k)

-- conversations stay free

kept_free : (ports : List SystemPort) (g k : ℕ)
    → assignment_of (first_table 1 256 1) g k ≡ held_unless_on (distributing (aggregator_numbered g) ports) (assignment_of (first_table 1 256 1) g k)
kept_free ports g k = subst (λ (a : Assignment). a ≡ held_unless_on (distributing (aggregator_numbered g) ports) a) (sym (first_free 1 256 1 g k)) refl

holds : (id : SystemId) (m : Machines) → HoldsConversations (system id m) (system id m)
holds id m = record {
  frame = refl;
  aggs = refl;
  conversations = refl;
  first = refl;
  next = refl;
  states = kept_free (port_with m ∷ []);
}

no_older : ChangesAssignments (first_table 1 256 1) (first_table 1 256 1) after_tick
no_older = record {
  aggs = refl;
  conversations = refl;
  first = refl;
  next = refl;
  states = λ a c. subst (λ (s : Assignment). s ≡ after_tick s) (sym (first_free 1 256 1 a c)) refl;
}

-- a settling, by what the machines do

pub settles_from : (id : SystemId) (a b c d e : Machines) → RunsToRest (mux_rows false) a b
    → ChoosesIn (record { keys = key₁ ∷ []; max_links = None; in_use = true ∷ [] }) (port_with b ∷ []) (port_with c ∷ [])
    → RunsToRest (mux_rows (ready_of (key₁ ∷ []) (views (port_with c ∷ [])) c.choice)) c d → RunsPeriodic d e
    → Settling (system id a) (system id e)
settles_from id a b c d e first chooses runs periodic = (
  system id b,
  (((refl, first), tt), refl),
  (
    system id c,
    (chooses, refl),
    (system id c, refl, (system id d, (((refl, runs), tt), refl), (system id e, (((refl, periodic), tt), refl), (system id e, holds id e, refl)))),
  ),
)

pub settles : (id : SystemId) (a c d e : Machines) → AtRest (mux_rows false) a
    → ChoosesIn (record { keys = key₁ ∷ []; max_links = None; in_use = true ∷ [] }) (port_with a ∷ []) (port_with c ∷ [])
    → RunsToRest (mux_rows (ready_of (key₁ ∷ []) (views (port_with c ∷ [])) c.choice)) c d → RunsPeriodic d e
    → Settling (system id a) (system id e)
settles id a c d e rest chooses runs periodic = settles_from id a a c d e (0, refl, rest) chooses runs periodic

-- the port chooses nothing
abbrev pub ChoosesNothing : Machines → Type 0
ChoosesNothing m = ChoosesIn (record { keys = key₁ ∷ []; max_links = None; in_use = true ∷ [] }) (port_with m ∷ []) (port_with m ∷ [])

nothing_down : (id : SystemId) → ChoosesNothing (begun id)
nothing_down id = (port_with (begun id) ∷ [], (port_with (begun id) ∷ [], refl, (0, refl, refl)), refl)

nothing_raised : (id : SystemId) → ChoosesNothing (raised id)
nothing_raised id = (port_with (raised id) ∷ [], (port_with (raised id) ∷ [], refl, (0, refl, refl)), refl)

chooses_one : ChoosesIn (record { keys = key₁ ∷ []; max_links = None; in_use = true ∷ [] }) (port_with hears ∷ []) (port_with chose ∷ [])
chooses_one = (port_with hears ∷ [], (port_with hears ∷ [], refl, (0, refl, refl)), refl)

nothing_waiting : (c p w : ℕ) → ChoosesNothing (waiting c p w)
nothing_waiting c p w = (port_with (waiting c p w) ∷ [], (port_with (waiting c p w) ∷ [], refl, (0, refl, refl)), refl)

-- the system starts

starts_port : (id : SystemId) → Starts (before_start (setup_of id config)) (begun id)
starts_port id = (
  record (begun id) { ntt = false },
  (1, (start_receive (before_start (setup_of id config)), refl, inl (refl, refl)), (refl, (refl, (refl, (refl, (refl, tt)))))),
  refl,
)

pub begins : (id : SystemId) → IsFirst (system id (down id))
begins id = (
  port_with (begun id) ∷ [],
  ((refl, refl, starts_port id, refl), tt),
  settles id (begun id) (begun id) (begun id) (down id) (refl, (refl, (refl, (refl, (refl, (refl, tt)))))) (nothing_down id)
      (0, refl, (refl, (refl, (refl, (refl, (refl, (refl, tt)))))))
      (begun id, (0, refl, (refl, (refl, (refl, (refl, (refl, (refl, (refl, tt)))))))), refl),
  refl,
)

pub ports_first : (id : SystemId) → HasPorts (system id (down id))
ports_first id = record { accepted = refl; same = refl }

-- its link goes up

pub goes_up : (id : SystemId) (gives : ℕ → ℕ → ℕ → Type 0)
    → Step gives (system id (down id)) (Set_link 1 true) (reply.SetLink (Ok tt)) (system id (lifted id))
goes_up id gives = (
  system id (raised id),
  (
    (
      port_with (down id),
      raised id,
      refl,
      (1, (record (down id) { enabled = true }, refl, inr (inr (inl (refl, refl)))), (refl, (refl, (refl, (refl, (refl, tt)))))),
      refl,
    ),
    refl,
    refl,
  ),
  settles id (raised id) (raised id) (raised id) (lifted id) (refl, (refl, (refl, (refl, (refl, (refl, tt)))))) (nothing_raised id)
      (0, refl, (refl, (refl, (refl, (refl, (refl, (refl, tt)))))))
      (lifted id, (1, (raised id, refl, inr (inl (refl, refl))), (refl, (refl, (refl, (refl, (refl, (refl, (refl, tt)))))))), refl),
)

pub first_is_sound : (id : SystemId) → IsSound (system id (down id))
first_is_sound id = first_sound (system id (down id)) (ports_first id) (begins id)

pub lifted_is_sound : (id : SystemId) (gives : ℕ → ℕ → ℕ → Type 0) → IsSound (system id (lifted id))
lifted_is_sound id gives =
    Step-sound gives (system id (down id)) (Set_link 1 true) (reply.SetLink (Ok tt)) (system id (lifted id)) (goes_up id gives) (first_is_sound id)

-- the LACPDU comes

pub address : (n : ℕ) → n < 256 → IsAddress (2 ∷ 0 ∷ 0 ∷ 0 ∷ 0 ∷ n ∷ [])
address n low = (refl, octets)
  where
    octets : AreOctets (2 ∷ 0 ∷ 0 ∷ 0 ∷ 0 ∷ n ∷ [])
    octets zero = omega arith
    octets (suc zero) = omega arith
    octets (suc (suc zero)) = omega arith
    octets (suc (suc (suc zero))) = omega arith
    octets (suc (suc (suc (suc zero)))) = omega arith
    octets (suc (suc (suc (suc (suc zero))))) = low
    octets (suc (suc (suc (suc (suc (suc i)))))) = omega arith

is_read : Reads payload lacpdu
is_read = record {
  addresses = (address 2 (omega arith), address 1 (omega arith));
  table = record {
    long_enough = omega arith;
    fields_hold = (refl, (refl, (refl, (refl, (refl, (refl, (refl, (refl, (refl, (refl, (refl, (refl, (refl, (refl, (refl, (refl, (refl, tt)))))))))))))))));
  };
}

carries_it : IsFrame frame (Carries (pdu.Lacpdu lacpdu))
carries_it = ((omega arith, (refl, refl)), is_read)

abbrev lacpdu_or : Lacpdu → Pdu → Lacpdu
lacpdu_or other (pdu.Lacpdu v) = v
lacpdu_or other (pdu.Marker m) = other

only_it : (v : Lacpdu) → IsFrame frame (Carries (pdu.Lacpdu v)) → lacpdu ≡ v
only_it v h = ap (lacpdu_or v) (one_pdu payload (pdu.Lacpdu v) (pdu.Lacpdu lacpdu) h.1 is_read)

pub is_taken : (gives : ℕ → ℕ → ℕ → Type 0) → Step gives (system near (lifted near)) (Receive 1 frame) (reply.Receive (Ok TookLacpdu)) (system near (waiting 900 300 20))
is_taken gives = (
  port_with (lifted near),
  _,
  refl,
  (Carries (pdu.Lacpdu lacpdu), carries_it, refl),
  (
    refl,
    (
      system near hears,
      ((port_with (lifted near), hears, refl, inl (inl (refl, refl)), refl), refl),
      settles near hears chose (record chose { mux = Waiting; wait_while = 20 }) (waiting 900 300 20)
          (refl, (refl, (refl, (refl, (refl, (refl, tt)))))) chooses_one
          (1, (chose, refl, inl (refl, refl)), (refl, (refl, (refl, (refl, (refl, (refl, tt))))))) (
            waiting 900 300 20,
            (
              1,
              (record chose { mux = Waiting; wait_while = 20 }, refl, inr (inr (inr (inl (refl, refl))))),
              (refl, (refl, (refl, (refl, (refl, (refl, (refl, tt))))))),
            ),
            refl,
          ),
    ),
  ),
)

-- it waits

current : (c p w : ℕ) → (c == 0) ≡ false → AtRest receive_rows (waiting c p w)
current c p w h = (refl, (refl, (refl, (refl, (h, tt)))))

calm : (c p w : ℕ) → AtRest (mux_rows false) (waiting c p w)
calm c p w = (refl, (refl, (refl, (refl, (refl, (refl, tt))))))

unready : (c p w : ℕ) → (w == 0) ≡ false
    → AtRest (mux_rows (ready_of (key₁ ∷ []) (views (port_with (waiting c p w) ∷ [])) (waiting c p w).choice)) (waiting c p w)
unready c p w h = (refl, (refl, (ap (λ (b : Bool). b && true) h, (refl, (refl, (refl, tt))))))

slow : (c p w : ℕ) → (p == 0) ≡ false → AtRest periodic_rows (waiting c p w)
slow c p w h = grind (arith, nat_tests)

pub ticks_to : (id : SystemId) (a b : Machines) → RunsToRest receive_rows (count_down a) b → Ticks (system id a) (system id b)
ticks_to id a b h = (((refl, h), tt), no_older, refl)

waits_on : (gives : ℕ → ℕ → ℕ → Type 0) (c p w b q v : ℕ) → b ≡ c - 1 → q ≡ p - 1 → v ≡ w - 1 → (b == 0) ≡ false → (q == 0) ≡ false
    → (v == 0) ≡ false → Step gives (system near (waiting c p w)) Tick reply.Tick (system near (waiting b q v))
waits_on gives c p w b q v eb ep ev hb hq hv = (
  system near (waiting b q v),
  ticks_to near (waiting c p w) (waiting b q v) (0, (λ i. waiting (eb i) (ep i) (ev i)), current b q v hb),
  settles near (waiting b q v) (waiting b q v) (waiting b q v) (waiting b q v) (calm b q v) (nothing_waiting b q v) (0, refl, unready b q v hv)
      (waiting b q v, (0, refl, slow b q v hq), refl),
)

-- and carries

last_tick : (gives : ℕ → ℕ → ℕ → Type 0) → Step gives (system near (waiting 881 281 1)) Tick reply.Tick (system near carrying)
last_tick gives = (
  system near (waiting 880 280 0),
  ticks_to near (waiting 881 281 1) (waiting 880 280 0) (0, refl, current 880 280 0 refl),
  settles near (waiting 880 280 0) (waiting 880 280 0) carrying carrying (calm 880 280 0) (nothing_waiting 880 280 0) (
    2,
    (
      record (waiting 880 280 0) { mux = Attached; ntt = true },
      (waiting 880 280 0, refl, inr (inr (inl (refl, refl)))),
      inr (inr (inr (inr (inl (refl, refl))))),
    ),
    (refl, (refl, (refl, (refl, (refl, (refl, tt)))))),
  )
      (carrying, (0, refl, (refl, (refl, (refl, (refl, (refl, (refl, (refl, tt)))))))), refl),
)

some_left : (n m : ℕ) → ((suc n + m) == 0) ≡ false
some_left n m = grind (arith, nat_tests)

none_gone : (n : ℕ) → (suc n == 0) ≡ false
none_gone n = grind (arith, nat_tests)

one_less : (n m : ℕ) → suc n + m ≡ (suc (suc n) + m) - 1
one_less n m = omega arith

pub next : (gives : ℕ → ℕ → ℕ → Type 0) (k : ℕ) → Step gives (system near (later (suc k))) Tick reply.Tick (system near (later k))
next gives zero = last_tick gives
next gives (suc k) = waits_on gives (suc (suc k) + 880) (suc (suc k) + 280) (suc (suc k)) (suc k + 880) (suc k + 280) (suc k) (one_less k 880) (one_less k 280)
    (omega arith) (some_left k 880) (some_left k 280) (none_gone k)

-- so many ticks

runs_down : (gives : ℕ → ℕ → ℕ → Type 0) (n : ℕ) → TableRun gives (system near (later n)) (replicate n Tick) (replicate n reply.Tick) (system near carrying)
runs_down gives zero = refl
runs_down gives (suc n) = (system near (later n), next gives n, runs_down gives n)

abbrev befores : ℕ → List SystemState
befores zero = []
befores (suc n) = system near (later (suc n)) ∷ befores n

runs_on : (gives : ℕ → ℕ → ℕ → Type 0) (n : ℕ) → IsSound (system near (later n))
    → Runs (LeavesPort 1) gives (system near (later n)) (replicate n Tick) (replicate n reply.Tick) (befores n) (system near carrying)
runs_on gives zero s = (0, (s, inl refl))
runs_on gives (suc n) s = (
  system near (later n),
  (0, (s, inl refl)),
  next gives n,
  runs_on gives n (Step-sound gives (system near (later (suc n))) Tick reply.Tick (system near (later n)) (next gives n) s),
)

no_other : (m : Machines) → NoneBegins agg₁ 1 (system near m)
no_other m = ((λ h. absurd (true≢false h)), tt)

none_begin : (n : ℕ) (ticked : Bool) → OnceTicked (NoneBegins agg₁ 1) ticked (replicate n Tick) (befores n) (system near carrying)
none_begin zero ticked = λ h. no_other carrying
none_begin (suc n) ticked = ((λ h. no_other (later (suc n))), none_begin n true)

abbrev served : Service
served = record { own = own near; active = true; short = false; who = party_of actor }

each_serves : (n : ℕ) → EachCall (LeavesServed served 1) (replicate n Tick) (replicate n reply.Tick)
each_serves zero = tt
each_serves (suc n) = ((refl, tt), each_serves n)

is_fed : (n left : ℕ) → suc n ≤ left → Fed false 1 left (replicate n Tick) (replicate n reply.Tick)
is_fed zero left h = tt
is_fed (suc n) left h = (omega (arith, h), is_fed n (left - 1) (omega (arith, h)))

differs : (party_of actor).system ≢ (own near).system
differs e = let h : ◌≡◌ {A = ℕ} 100 32768 = ap (λ (s : SystemId). s.priority) e in absurd (omega (arith, h))

has_room : StandsByFull (system near (waiting 900 300 20)) (waiting 900 300 20) → ⊥
has_room h = grind arith

pub mid_is_sound : (gives : ℕ → ℕ → ℕ → Type 0) → IsSound (system near (waiting 900 300 20))
mid_is_sound gives = Step-sound gives (system near (lifted near)) (Receive 1 frame) (reply.Receive (Ok TookLacpdu)) (system near (waiting 900 300 20))
    (is_taken gives) (lifted_is_sound near gives)

pub comes_to_carry : (gives : ℕ → ℕ → ℕ → Type 0) → ComesToCarry gives
comes_to_carry gives = record {
  first = system near (down near);
  old = system near (lifted near);
  mid = system near (waiting 900 300 20);
  new = system near carrying;
  octets = frame;
  u = served;
  x = port_with (lifted near);
  w = port_with (waiting 900 300 20);
  y = port_with carrying;
  agg = agg₁;
  calls = replicate 20 Tick;
  replies = replicate 20 reply.Tick;
  states = befores 20;
  accepted = ports_first near;
  starts = begins near;
  run = (system near (lifted near), goes_up near gives, (system near (waiting 900 300 20), is_taken gives, runs_down gives 20));
  sound = lifted_is_sound near gives;
  waits = (omega arith, tt);
  there = refl;
  up = refl;
  parameters = (refl, refl, refl);
  took = is_taken gives;
  serves = λ v h. subst (Serves served) (only_it v h) (refl, refl);
  after = refl;
  let_go = refl;
  apart = differs;
  place = inl (omega arith);
  room = has_room;
  chosen = refl;
  goes_on = runs_on gives 20 (mid_is_sound gives);
  none_begins = none_begin 20 false;
  each = each_serves 20;
  fed = is_fed 20 900 (omega arith);
  long_enough = omega arith;
  last = refl;
  carries = refl;
  heard = refl;
  named = refl;
}
