-- The calls of a warm start (profile).
use Rattle.std.specs.Prelude.{ℕ, ◌==◌, ◌&&◌, ◌||◌, ◌+◌, ◌-◌, ◌++◌, not, Bool, true, false, List, [], ◌∷◌, filter, get_or, length, map}
use Rattle.std.specs.Prelude.{if◌then◌else◌, nat_lt, replicate, slice_set, suc, take, zero, ◌%◌}
use Rattle.std.specs.List.{flat_map, list_any}
use Rattle.lagtypes.specs.declared.identifiers.Key.{Key}
use Rattle.lagsystem.specs.declared.config.PortChange.{PortChange}
use Rattle.lagsystem.specs.declared.config.PortConfig.{PortConfig}
use Rattle.lagsystem.specs.Calls.{Call, Configure, Receive, Set_link, Tick}
use Rattle.dataplane.specs.declared.resuming.SavedPort.{SavedPort}
use Rattle.dataplane.specs.declared.warming.Moment.{Moment}
use Rattle.dataplane.specs.declared.warming.Moment.TheVariants.{Leading, Before}

-- the link of the port comes up
abbrev pub link_up : PortConfig → Call
link_up c = Set_link c.number true

-- a port was saved in this aggregator
abbrev pub is_taken : List SavedPort → ℕ → Bool
is_taken saved agg = list_any (λ x. x.aggregator == agg) saved

-- a port was saved in a higher aggregator
abbrev pub has_higher : List SavedPort → ℕ → Bool
has_higher saved agg = list_any (λ x. nat_lt agg x.aggregator) saved

-- a lower port was saved in the aggregator of the port
abbrev pub has_lower : List SavedPort → SavedPort → Bool
has_lower saved x = list_any (λ y. (y.aggregator == x.aggregator) && nat_lt y.port x.port) saved

-- the port is the lowest that was saved in its aggregator
abbrev pub leads : List SavedPort → SavedPort → Bool
leads saved x = nat_lt 0 x.aggregator && not (has_lower saved x)

-- the port with this number is so; each other port is spare
abbrev pub is_leading : List SavedPort → ℕ → Bool
is_leading saved port = list_any (λ x. (x.port == port) && leads saved x) saved

-- the port is spare, of the key of the other one, and below it
abbrev pub is_spare_below : List SavedPort → PortConfig → PortConfig → Bool
is_spare_below saved c other = ((c.key.0 == other.key.0) && nat_lt c.number other.number) && not (is_leading saved c.number)

-- 1 if the aggregator of this number and key has the other key, and no port was saved in it
abbrev pub one_if_empty : List SavedPort → ℕ → Key → Key → ℕ
one_if_empty saved agg own key = if (own.0 == key.0) && not (is_taken saved agg) then 1 else 0

-- how many of the first aggregators, so many, have the key and are empty
abbrev pub count_empty : List SavedPort → List Key → Key → ℕ → ℕ
count_empty saved keys key zero = 0
count_empty saved keys key (suc n) = count_empty saved keys key n + one_if_empty saved (n + 1) (get_or keys n (record { 0 = 0 })) key

-- The port takes this aggregator for the while, which has this key: it is empty, and below others of the saved ports. The spare ports of a
-- key take its empty aggregators in order; `below` has the keys of the aggregators below it.
abbrev pub fills : List SavedPort → List Key → Key → ℕ → List PortConfig → PortConfig → Bool
fills saved below key agg ports c =
    ((c.key.0 == key.0) && (has_higher saved agg && not (is_taken saved agg)))
    && (not (is_leading saved c.number)
    && (length (filter (λ other. is_spare_below saved other c) ports) == count_empty saved below key (length below)))

-- The LACPDU comes when its port leads this aggregator; so many ticks before the end if it is as old as it was saved then, and each
-- 20 ticks before that.
abbrev pub is_due : Moment → List SavedPort → SavedPort → Bool
is_due (Leading agg) saved x = (x.aggregator == agg) && leads saved x
is_due (Before left) saved x = (x.age == left) || (nat_lt x.age left && (left % 20 == 0))

-- this call, if so
abbrev pub call_if : Bool → Call → List Call
call_if so call = if so then call ∷ [] else []

-- the LACPDU of the port comes, if it comes at this moment
abbrev pub heard_of : Moment → List SavedPort → SavedPort → List Call
heard_of moment saved x = call_if (is_due moment saved x) (Receive x.port x.frame)

-- so do all
abbrev pub heard : Moment → List SavedPort → List Call
heard moment saved = flat_map (heard_of moment saved) saved

-- the LACPDU of the partner of the first saved port, but it says that it is Individual: its Actor_State is LACP_Activity alone (6.4.2.3)
abbrev pub individual_frame : List SavedPort → List ℕ
individual_frame [] = replicate 124 0
individual_frame (x ∷ xs) = slice_set x.frame 32 1

-- the port hears it, if it takes this aggregator for the while
abbrev pub filled_by : List SavedPort → List Key → Key → ℕ → List PortConfig → PortConfig → List Call
filled_by saved below key agg ports c = call_if (fills saved below key agg ports c) (Receive c.number (individual_frame saved))

-- so does the one that does
abbrev pub filled : List SavedPort → List Key → Key → ℕ → List PortConfig → List Call
filled saved below key agg ports = flat_map (filled_by saved below key agg ports) ports

-- the first aggregators, so many, get their first ports, one after another
abbrev pub occupied : List SavedPort → List Key → List PortConfig → ℕ → List Call
occupied saved keys ports zero = []
occupied saved keys ports (suc n) =
    occupied saved keys ports n
    ++ (heard (Leading (n + 1)) saved ++ filled saved (take n keys) (get_or keys n (record { 0 = 0 })) (n + 1) ports)

-- a value of the port that it does not have, and the value that it was given
abbrev pub change_to : Bool → PortConfig → PortChange
change_to aggregatable c = record { key = c.key; priority = c.priority; aggregatable = aggregatable }

-- the port goes down and starts again with the parameters that it was given
abbrev pub starting_again : PortConfig → List Call
starting_again c =
    Set_link c.number false
    ∷ Configure c.number (change_to (not c.aggregatable) c) ∷ Configure c.number (change_to c.aggregatable c) ∷ []

-- the port with this number was saved
abbrev pub is_saved : List SavedPort → ℕ → Bool
is_saved saved port = list_any (λ x. x.port == port) saved

-- so does a port that was not saved
abbrev pub other_starting : List SavedPort → PortConfig → List Call
other_starting saved c = if is_saved saved c.number then [] else starting_again c

-- so do all of them
abbrev pub others_starting : List SavedPort → List PortConfig → List Call
others_starting saved ports = flat_map (other_starting saved) ports

-- of this many ticks so many pass, and LACPDUs come before, between and behind them
abbrev pub passing : List SavedPort → ℕ → ℕ → List Call
passing saved ticks zero = heard (Before ticks) saved
passing saved ticks (suc n) = passing saved ticks n ++ (Tick ∷ heard (Before (ticks - n - 1)) saved)

-- a port has the Long Timeout
abbrev pub any_long : List PortConfig → Bool
any_long ports = list_any (λ c. not c.short) ports

-- how many pass: a timeout and wait_while (6.4.4), two short timeouts where each port has the short one
abbrev pub duration : List PortConfig → ℕ
duration ports = if any_long ports then 920 else 60

-- The calls of a warm start. The links come up; each aggregator gets its first port, in order; the ports that were not saved start again;
-- and ticks pass, so that wait_while runs out, and each LACPDU comes last when it is as old as it was saved.
abbrev pub warm_calls : List Key → List PortConfig → List SavedPort → List Call
warm_calls keys ports saved =
    map link_up ports
    ++ (occupied saved keys ports (length keys)
    ++ (others_starting saved ports ++ passing saved (duration ports) (duration ports)))
