-- Ports of a key that have joined an aggregator, or whose link is down, do not begin to wait while they hear what they have recorded
-- (6.4.12 to 6.4.15).
use Rattle.std.specs.Prelude.{◌≡◌, ◌≢◌, ◌≤◌, ◌<◌, ◌⊎◌, ℕ, true, false, List, Option, None, Some, Ok}
use Rattle.std.specs.List.{AllByRecursion}
use Rattle.lagtypes.specs.Choices.{is_unselected}
use Rattle.lagtypes.specs.declared.identifiers.AggId.{AggId}
use Rattle.lagtypes.specs.declared.identifiers.Key.{Key}
use Rattle.lagtypes.specs.declared.party.Party.{Party}
use Rattle.slowpdu.specs.declared.pdu.Lacpdu.{Lacpdu}
use Rattle.slowpdu.specs.declared.pdu.Pdu.TheVariants as pdu
use Rattle.slowpdu.specs.Parties.{party_of}
use Rattle.portmachines.specs.declared.receive.ReceiveState.TheVariants.{Expired}
use Rattle.portmachines.specs.Machines.{Machines}
use Rattle.lagsystem.specs.declared.drive.Reply.{Reply}
use Rattle.lagsystem.specs.declared.drive.Reply.TheVariants as reply
use Rattle.lagsystem.specs.declared.received.Received.TheVariants.{TookLacpdu}
use Rattle.lagsystem.specs.declared.system_ports.SystemPort.{SystemPort}
use Rattle.lagsystem.specs.Calls.{Call, Carries, Configure, IsFrame, Receive, Restart, Set_link}
use Rattle.lagsystem.specs.ModelView.{key_of}
use Rattle.lagsystem.specs.Settings.{Hold_port, Set_in_use, Set_mode, Setting}
use Rattle.lagsystem.specs.Sound.{IsSound}
use Rattle.lagsystem.specs.State.{SystemState}
use Rattle.lagbeside.specs.Heartbeat.{EachCall, tick_count}
use Rattle.lagbeside.specs.Runs.{LeavesPort, OnceTicked, Runs}
use Rattle.lagbeside.specs.Serving.{NoneBegins, WaitsAreBounded}

-- The link of the port is down. Or the port is SELECTED or STANDBY, has recorded this party, and is not DEFAULTED anew within so many
-- ticks: in EXPIRED current_while has more.
abbrev pub HasJoined : ℕ → Party → Machines → Type 0
HasJoined ticks who p = (p.enabled ≡ false)
    ⊎ ((is_unselected p.choice ≡ false) × (party_of p.partner ≡ who) × (p.receive ≡ Expired → ticks < p.current_while))

-- The other ports are told apart by a function: of the number of a port with this key, the party that it has recorded; of a
-- port with another key, None.
abbrev pub StandsApart : ℕ → Key → Option Party → Machines → Type 0
StandsApart ticks key None p = p.party.key ≢ key
StandsApart ticks key (Some who) p = HasJoined ticks who p

-- so it is with each port but n
abbrev pub OthersStandApart : ℕ → Key → (ℕ → Option Party) → ℕ → SystemState → Type 0
OthersStandApart ticks key hears n s =
    AllByRecursion (λ (y : SystemPort). y.number ≢ n → StandsApart ticks key (hears y.number) y.port) s.system_ports

-- Of the ports but n, the call configures none; and of those with a party, it takes no link up, and each LACPDU that they process is
-- of that party.
abbrev pub LetsNoneJoin : (ℕ → Option Party) → ℕ → Call → Reply → Type 0
LetsNoneJoin hears n (Receive m octets) (reply.Receive (Ok TookLacpdu)) = m ≢ n → (who : Party) → hears m ≡ Some who → (v : Lacpdu)
    → IsFrame octets (Carries (pdu.Lacpdu v)) → party_of v.actor ≡ who
LetsNoneJoin hears n (Set_link m up) answer = m ≢ n → (who : Party) → hears m ≡ Some who → up ≡ false
LetsNoneJoin hears n (Configure m change) answer = m ≡ n
LetsNoneJoin hears n Restart answer = ⊥
LetsNoneJoin hears n call answer = Unit {0}

-- the setting leaves port n, and no port with a party is held or let go, nor is an aggregator put out of use
abbrev pub SetsNoneFree : (ℕ → Option Party) → ℕ → Setting → Type 0
SetsNoneFree hears n (Hold_port m held) = (m ≢ n) × (hears m ≡ None)
SetsNoneFree hears n (Set_mode m active short) = m ≢ n
SetsNoneFree hears n (Set_in_use agg now) = now ≡ true
SetsNoneFree hears n setting = Unit {0}

-- An aggregator of a sound system has this key, and for at most 30 ticks each other port of the key hears the party that it has recorded,
-- or nothing; ports of other keys may hear anything. Then, in each run of this kind, no other port begins to wait in the aggregator after
-- the first tick; and the run leaves port n. So it is as `ComesUp` asks.
abbrev pub NoneBeginsToWait : (ℕ → ℕ → ℕ → Type 0) → Type 0
NoneBeginsToWait gives = (hears : ℕ → Option Party) (agg : AggId) (key : Key) (n : ℕ) (old new : SystemState) (calls : List Call)
    (replies : List Reply) (states : List SystemState) → IsSound old → WaitsAreBounded old → key_of old.keys agg.0 ≡ Some key
    → OthersStandApart (tick_count calls) key hears n old → Runs (SetsNoneFree hears n) gives old calls replies states new
    → EachCall (LetsNoneJoin hears n) calls replies → tick_count calls ≤ 30
    → Runs (LeavesPort n) gives old calls replies states new × OnceTicked (NoneBegins agg n) false calls states new
