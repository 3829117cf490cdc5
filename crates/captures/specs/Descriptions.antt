-- What a section of pcapng says of an interface (draft-ietf-opsawg-pcapng): type, length, link type, two reserved octets,
-- the most octets that are captured of a packet, options. An option has a code and a length of two octets each, and as
-- many octets as that, filled up to a multiple of 4.
use Rattle.std.specs.Prelude.{◌==◌, ◌&&◌, ◌||◌, ◌+◌, ◌-◌, ◌*◌, ◌/◌, not, ℕ, Bool, false, zero, suc, List, slice_index, nat_lt, Result, Ok, Err, if◌then◌else◌}
use Rattle.captures.specs.declared.description.Entry.{Entry}
use Rattle.captures.specs.declared.description.Entry.TheVariants as entries
use Rattle.captures.specs.declared.fault.Cause.TheVariants as causes
use Rattle.captures.specs.declared.fault.Stop.{Stop}
use Rattle.captures.specs.declared.interface.Interface.{Interface}
use Rattle.captures.specs.declared.interface.Timing.{Timing}
use Rattle.captures.specs.declared.number.Order.{Order}
use Rattle.captures.specs.Faults.{refused}
use Rattle.captures.specs.Links.{link_at}
use Rattle.captures.specs.Numbers.{number_at}
use Rattle.captures.specs.Pcap.{most_captured}
use Rattle.captures.specs.Pcapng.{length_in, or_refused}
use Rattle.captures.specs.Reading.{◌>>=◌, with_octets}
use Rattle.captures.specs.Times.{shift_of, units_of_resolution}

-- the code of the option at this offset, and how many octets it has
abbrev pub option_code : Order → List ℕ → ℕ → ℕ
option_code order b at = number_at order b at 2

abbrev pub option_size : Order → List ℕ → ℕ → ℕ
option_size order b at = number_at order b (at + 2) 2

-- an option of this many octets ends behind the offset end, or an if_tsresol has not one octet, or an if_tsoffset not eight
abbrev pub is_wrong_option : ℕ → ℕ → ℕ → ℕ → Bool
is_wrong_option end at code size = nat_lt (end - 4 - at) size || ((code == 9) && not (size == 1)) || ((code == 14) && not (size == 8))

-- the units that the octet of an if_tsresol at this offset tells; the next option stands four octets behind it
abbrev pub units_at : List ℕ → ℕ → Result Entry Stop
units_at b at =
    or_refused (units_of_resolution (slice_index b at)) (refused at (causes.Resolution (slice_index b at)))
    >>= λ units. Ok (entries.Units units (at + 4))

-- what stands at this offset among the options before the offset end
abbrev pub entry_at : Order → List ℕ → ℕ → ℕ → Result Entry Stop
entry_at order b end at =
    if nat_lt end 4 || nat_lt (end - 4) at then Ok entries.End
    else if option_code order b at == 0 then Ok entries.End
    else if is_wrong_option end at (option_code order b at) (option_size order b at)
    then Err (refused (at + 2) (causes.Length (option_size order b at)))
    else if option_code order b at == 9 then units_at b (at + 4)
    else if option_code order b at == 14 then Ok (entries.Moved (shift_of (number_at order b (at + 4) 8)) (at + 12))
    else Ok (entries.Other (at + 4 + (option_size order b at + 3) / 4 * 4))

-- how packets are timed, where the options tell nothing: in millionths of a second
abbrev pub usual_timing : Timing
usual_timing = record { units = 1000000; shift = record { seconds = 0; is_earlier = false } }

-- how packets are timed by what stands at an offset; others says it for what follows, by what is known so far
abbrev pub timing_of : (Timing → ℕ → Result Timing Stop) → Timing → Entry → Result Timing Stop
timing_of others timing entries.End = Ok timing
timing_of others timing (entries.Units units next) = others (record timing { units = units }) next
timing_of others timing (entries.Moved shift next) = others (record timing { shift = shift }) next
timing_of others timing (entries.Other next) = others timing next

-- the same by at most n options from an offset on (last number) and before the offset end; the last one of a kind counts
unfoldable pub timing_from : Order → List ℕ → ℕ → ℕ → Timing → ℕ → Result Timing Stop
timing_from order b end zero timing at = Ok timing
timing_from order b end (suc n) timing at = entry_at order b end at >>= timing_of (timing_from order b end n) timing

-- how packets are timed, by the options before the offset end
abbrev pub timing_in : Order → List ℕ → ℕ → Result Timing Stop
timing_in order b end = timing_from order b end end usual_timing 16

-- the interface, and the block's length
abbrev pub interface_in : Order → List ℕ → Result (Interface × ℕ) Stop
interface_in order b = do
  length ← length_in order b 20
  if nat_lt most_captured length then Err (refused 4 (causes.Description length)) else with_octets length b do
    link ← link_at 8 (number_at order b 8 2)
    timing ← timing_in order b (length - 4)
    Ok (record { link = link; snapshot = number_at order b 12 4; timing = timing }, length)
