-- Why two systems and their cables are refused (profile).
use Rattle.std.specs.Prelude.{ℕ, zero, suc, ◌==◌, ◌&&◌, ◌||◌, Bool, not, List, [], ◌∷◌, length, map, get_or, take, if◌then◌else◌, Option}
use Rattle.std.specs.Prelude.{Some, None, option_map}
use Rattle.std.specs.List.{list_any}
use Rattle.lagtypes.specs.Same.{same_system}
use Rattle.lagsystem.specs.First.{ConfigValue, config_value, or_first, refusal}
use Rattle.lagsystem.specs.declared.config.PortConfig.{PortConfig}
use Rattle.lagsystem.specs.declared.fault.BadConfig.{BadConfig}
use Rattle.lagsystem.specs.declared.fault.BadConfig.TheVariants.{Conversations}
use Rattle.lagscript.specs.declared.config.BadWorld.{BadWorld}
use Rattle.lagscript.specs.declared.config.BadWorld.TheVariants.{System, SameSystem, CableEnd}
use Rattle.lagscript.specs.declared.config.WorldConfig.{WorldConfig}

-- one of these ports has this number
abbrev pub has_port : List PortConfig → ℕ → Bool
has_port ports number = list_any (λ port. port.number == number) ports

-- one of these cables ends at a port at which this cable ends
abbrev pub shares_end : List (ℕ × ℕ) → ℕ × ℕ → Bool
shares_end cables cable = list_any (λ c. (c.0 == cable.0) || (c.1 == cable.1)) cables

-- each end of the cable is a port of its system, and no earlier cable has it
abbrev pub can_join : List PortConfig → List PortConfig → List (ℕ × ℕ) → ℕ × ℕ → Bool
can_join ports1 ports2 earlier cable = (has_port ports1 cable.0 && has_port ports2 cable.1) && not (shares_end earlier cable)

-- the cable at this index, from 0, cannot join two ports: an end is no port, or an earlier cable has it
abbrev pub has_bad_end : List PortConfig → List PortConfig → List (ℕ × ℕ) → ℕ → Bool
has_bad_end ports1 ports2 cables i = not (can_join ports1 ports2 (take i cables) (get_or cables i (0, 0)))

-- the first number below a limit that passes a test
abbrev pub first_below : (ℕ → Bool) → ℕ → Option ℕ
first_below test zero = None
first_below test (suc n) = or_first (first_below test n) (if test n then Some n else None)

-- the place, counted from 1, of the first cable with an end that is no port of its system or that an earlier cable has
abbrev pub bad_end : List PortConfig → List PortConfig → List (ℕ × ℕ) → Option ℕ
bad_end ports1 ports2 cables = option_map suc (first_below (has_bad_end ports1 ports2 cables) (length cables))

-- a system of two has not one conversation in each aggregator, where something else would pick the ports of frames
abbrev pub lone_refusal : ℕ → Option BadConfig
lone_refusal conversations = if conversations == 1 then Some Conversations else None

-- the first reason to refuse the configuration of a system of two, if there is one
abbrev pub refusal_of_either : ConfigValue → Option BadConfig
refusal_of_either config =
    or_first (refusal config.aggregators config.ports config.max_links config.conversations) (lone_refusal config.conversations)

-- why the configuration of system 1 or 2 is refused, if it is
abbrev pub system_refusal : ℕ → ConfigValue → Option BadWorld
system_refusal side config = option_map (System side) (refusal_of_either config)

-- the first reason to refuse two systems and their cables: of system 1, of system 2, equal identifiers, of the cables
abbrev pub refusal_of_two : ConfigValue → ConfigValue → List (ℕ × ℕ) → Option BadWorld
refusal_of_two a b cables =
    or_first (system_refusal 1 a)
    (or_first (system_refusal 2 b)
    (or_first (if same_system a.system b.system then Some SameSystem else None)
    (option_map CableEnd (bad_end a.ports b.ports cables))))

-- the first reason to refuse a list of exactly two systems and their cables, if there is one
abbrev pub refusal_of_all : List ConfigValue → List (ℕ × ℕ) → Option BadWorld
refusal_of_all (a ∷ b ∷ []) cables = refusal_of_two a b cables
refusal_of_all _ cables = None

-- the first reason to refuse the configuration of two systems and their cables, if there is one
abbrev pub world_refusal : WorldConfig → Option BadWorld
world_refusal w = refusal_of_all (map config_value w.systems) w.cables.items
