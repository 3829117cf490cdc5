-- A block, a head and a step stay as they are, whatever follows the octets.
use Rattle.std.proofs.Common.{◌≡◌, ◌++◌, ◌≤◌, ◌+◌, ◌-◌, ◌*◌, ◌/◌, ◌∙◌, ◌==◌, ◌&&◌, ◌||◌, not, ℕ, zero, suc, Bool, true, false, cond, List, length}
use Rattle.std.proofs.Common.{slice_index, nat_lt, Result, Ok, Err, ap, refl, sym, subst, arith, ltb-false}
use Rattle.std.proofs.lemmas.Bool.{or_parts}
use Rattle.captures.specs.declared.description.Entry.{Entry}
use Rattle.captures.specs.declared.description.Entry.TheVariants as entries
use Rattle.captures.specs.declared.fault.Cause.TheVariants as causes
use Rattle.captures.specs.declared.fault.Fault.{Fault}
use Rattle.captures.specs.declared.fault.Stop.{Stop}
use Rattle.captures.specs.declared.fault.Stop.TheVariants.{Refused}
use Rattle.captures.specs.declared.format.Format.{Format}
use Rattle.captures.specs.declared.interface.Interface.{Interface}
use Rattle.captures.specs.declared.interface.Timing.{Timing}
use Rattle.captures.specs.declared.number.Order.{Order}
use Rattle.captures.specs.declared.number.Order.TheVariants.{Big, Little}
use Rattle.captures.specs.declared.reader.Step.{Step}
use Rattle.captures.specs.declared.time.Unit.TheVariants.{Micro, Nano}
use Rattle.captures.specs.Blocks.{as_block, block_in, block_of_type, without_packet}
use Rattle.captures.specs.Descriptions.{entry_at, interface_in, is_wrong_option, option_code, option_size, timing_from, timing_in, timing_of}
use Rattle.captures.specs.Descriptions.{units_at, usual_timing}
use Rattle.captures.specs.Faults.{refused}
use Rattle.captures.specs.Formats.{first_section, format_in, format_of_number, packets_behind}
use Rattle.captures.specs.Links.{link_at}
use Rattle.captures.specs.Numbers.{number_at}
use Rattle.captures.specs.Pcap.{link_of_file, most_captured, packet_in, whole}
use Rattle.captures.specs.Pcapng.{described, interface_number, length_in, limited, or_refused, room, section_in, simple_packet, stamped_packet}
use Rattle.captures.specs.Reading.{◌>>=◌, with_octets}
use Rattle.captures.specs.Steps.{ReaderState, step, step_in}
use Rattle.captures.specs.Times.{shift_of, stamp_time, units_of_resolution}
use Rattle.captures.proofs.EntryLemmas.{none_left, one_entry}
use Rattle.captures.proofs.StaysLemmas.{Stays, length_same, link_stays, number_same, octet_same, packet_stays, section_stays, stays_bind, stays_known}
use Rattle.captures.proofs.StaysLemmas.{stays_octets, stays_same, whole_stays}

interface_number_same : (order : Order) (b more : List ℕ) (is_older : Bool) → 12 ≤ length b
    → interface_number order (b ++ more) is_older ≡ interface_number order b is_older
interface_number_same order b more is_older le = grind (arith, number_same)

stamped_stays : (order : Order) (is : List Interface) (b more : List ℕ) (older : Bool) → 8 ≤ length b
    → Stays (stamped_packet order is b older) (stamped_packet order is (b ++ more) older)
stamped_stays order is b more older le =
    stays_bind (length_in order b 32) (length_in order (b ++ more) 32) _ _ (stays_same _ _ (length_same order b more 32 le))
    (λ n. stays_octets 28 b more _ _ (λ enough.
    stays_bind (described is (interface_number order b older) 8) (described is (interface_number order (b ++ more) older) 8) _ _
    (stays_same _ _ (ap (λ k. described is k 8) (interface_number_same order b more older (omega (arith, enough)))))
    (λ i. stays_bind
    (or_refused (stamp_time i.timing.units i.timing.shift (number_at order b 12 4 * 4294967296 + number_at order b 16 4)) (refused 12 causes.Time))
    (or_refused (stamp_time i.timing.units i.timing.shift (number_at order (b ++ more) 12 4 * 4294967296 + number_at order (b ++ more) 16 4)) (refused 12 causes.Time)) _ _
    (stays_same _ _ (rw (number_same order b more 12 4 (omega (arith, enough)), number_same order b more 16 4 (omega (arith, enough))) refl))
    (λ time. stays_bind (room (number_at order b 20 4) 28 n 20) (room (number_at order (b ++ more) 20 4) 28 n 20) _ _
    (stays_same _ _ (ap (λ k. room k 28 n 20) (number_same order b more 20 4 (omega (arith, enough)))))
    (λ captured. stays_bind (whole b 28 captured 20) (whole (b ++ more) 28 captured 20) _ _ (whole_stays b more 28 captured captured 20 refl)
    (λ end. rw (number_same order b more 24 4 (omega (arith, enough)), interface_number_same order b more older (omega (arith, enough))) refl))))))

simple_stays : (order : Order) (is : List Interface) (b more : List ℕ) → 8 ≤ length b → Stays (simple_packet order is b) (simple_packet order is (b ++ more))
simple_stays order is b more le =
    stays_bind (length_in order b 16) (length_in order (b ++ more) 16) _ _ (stays_same _ _ (length_same order b more 16 le))
    (λ n. stays_octets 12 b more _ _ (λ enough.
    stays_bind (described is 0 0) (described is 0 0) _ _ (stays_same _ _ refl)
    (λ i. stays_bind (room (limited i.snapshot (number_at order b 8 4)) 12 n 8) (room (limited i.snapshot (number_at order (b ++ more) 8 4)) 12 n 8) _ _
    (stays_same _ _ (ap (λ k. room (limited i.snapshot k) 12 n 8) (number_same order b more 8 4 (omega (arith, enough)))))
    (λ captured. stays_bind (whole b 12 captured 8) (whole (b ++ more) 12 captured 8) _ _ (whole_stays b more 12 captured captured 8 refl)
    (λ end. rw (number_same order b more 8 4 (omega (arith, enough))) refl)))))

-- an option with this code and size at this offset, before the offset end
entry_by : Order → List ℕ → ℕ → ℕ → ℕ → ℕ → Result Entry Stop
entry_by order b end at c z =
    cond (c == 0) (Ok entries.End) (cond (is_wrong_option end at c z) (Err (refused (at + 2) (causes.Length z))) (cond (c == 9) (units_at b (at + 4))
    (cond (c == 14) (Ok (entries.Moved (shift_of (number_at order b (at + 4) 8)) (at + 12))) (Ok (entries.Other (at + 4 + (z + 3) / 4 * 4))))))

size_is : (c : Bool) (z n : ℕ) → c ≡ true → (c && not (z == n)) ≡ false → z ≡ n
size_is c z n t e = grind arith

entry_by_same : (order : Order) (b more : List ℕ) (end at c z : ℕ) → end ≤ length b → 4 ≤ end → at ≤ end - 4
    → entry_by order (b ++ more) end at c z ≡ entry_by order b end at c z
unfolding entry_by
entry_by_same order b more end at c z le four fits = by (c == 0) (is_wrong_option end at c z) (c == 9) (c == 14) refl refl refl
  where
    by : (none wrong nine fourteen : Bool) → is_wrong_option end at c z ≡ wrong → (c == 9) ≡ nine → (c == 14) ≡ fourteen
        → cond none (Ok entries.End) (cond wrong (Err (refused (at + 2) (causes.Length z)))
        (cond nine (units_at (b ++ more) (at + 4)) (cond fourteen (Ok (entries.Moved (shift_of (number_at order (b ++ more) (at + 4) 8)) (at + 12)))
        (Ok (entries.Other (at + 4 + (z + 3) / 4 * 4))))))
        ≡ cond none (Ok entries.End) (cond wrong (Err (refused (at + 2) (causes.Length z)))
        (cond nine (units_at b (at + 4)) (cond fourteen (Ok (entries.Moved (shift_of (number_at order b (at + 4) 8)) (at + 12)))
        (Ok (entries.Other (at + 4 + (z + 3) / 4 * 4))))))
    by true wrong nine fourteen w n f = refl
    by false true nine fourteen w n f = refl
    by false false true fourteen w n f =
        let (both, other) = or_parts (nat_lt (end - 4 - at) z || ((c == 9) && not (z == 1))) ((c == 14) && not (z == 8)) w in
        let (inside, ninth) = or_parts (nat_lt (end - 4 - at) z) ((c == 9) && not (z == 1)) both in
        let room = ltb-false (end - 4 - at) z inside in
        let size = size_is (c == 9) z 1 n ninth in
        ap (λ x. or_refused (units_of_resolution x) (refused (at + 4) (causes.Resolution x)) >>= λ units. Ok (entries.Units units (at + 4 + 4)))
        (octet_same b more (at + 4) (omega (arith, le, four, fits, room, size)))
    by false false false true w n f =
        let (both, other) = or_parts (nat_lt (end - 4 - at) z || ((c == 9) && not (z == 1))) ((c == 14) && not (z == 8)) w in
        let (inside, ninth) = or_parts (nat_lt (end - 4 - at) z) ((c == 9) && not (z == 1)) both in
        let room = ltb-false (end - 4 - at) z inside in
        let size = size_is (c == 14) z 8 f other in
        ap (λ x. Ok (entries.Moved (shift_of x) (at + 12))) (number_same order b more (at + 4) 8 (omega (arith, le, four, fits, room, size)))
    by false false false false w n f = refl

entry_same : (order : Order) (b more : List ℕ) (end at : ℕ) → end ≤ length b → entry_at order (b ++ more) end at ≡ entry_at order b end at
unfolding entry_by
entry_same order b more end at le = by (nat_lt end 4 || nat_lt (end - 4) at) refl
  where
    by : (past : Bool) → (nat_lt end 4 || nat_lt (end - 4) at) ≡ past
        → cond past (Ok entries.End) (entry_by order (b ++ more) end at (option_code order (b ++ more) at) (option_size order (b ++ more) at))
        ≡ cond past (Ok entries.End) (entry_by order b end at (option_code order b at) (option_size order b at))
    by true e = refl
    by false e = let (whole, inside) = or_parts (nat_lt end 4) (nat_lt (end - 4) at) e in
        let four = ltb-false end 4 whole in
        let fits = ltb-false (end - 4) at inside in
        ap (λ c. entry_by order (b ++ more) end at c (option_size order (b ++ more) at)) (number_same order b more at 2 (omega (arith, le, four, fits)))
        ∙ ap (entry_by order (b ++ more) end at (option_code order b at)) (number_same order b more (at + 2) 2 (omega (arith, le, four, fits)))
        ∙ entry_by_same order b more end at (option_code order b at) (option_size order b at) le four fits

others_same : (r : Result Entry Stop) (f g : Timing → ℕ → Result Timing Stop) (t : Timing) → ((u : Timing) (at : ℕ) → f u at ≡ g u at)
    → (r >>= timing_of f t) ≡ (r >>= timing_of g t)
others_same r f g t h = grind arith

timing_same : (order : Order) (b more : List ℕ) (end n : ℕ) (t : Timing) (at : ℕ) → end ≤ length b
    → timing_from order (b ++ more) end n t at ≡ timing_from order b end n t at
timing_same order b more end zero t at le = none_left order (b ++ more) end t at ∙ sym (none_left order b end t at)
timing_same order b more end (suc n) t at le = one_entry order (b ++ more) end n t at ∙ ap (λ r. r >>= timing_of
    (timing_from order (b ++ more) end n) t) (entry_same order b more end at le) ∙ others_same (entry_at order b end at) (timing_from order
    (b ++ more) end n) (timing_from order b end n) t (λ u k. timing_same order b more end n u k le) ∙ sym (one_entry order b end n t at)

length_least : (order : Order) (b : List ℕ) (least n : ℕ) → length_in order b least ≡ Ok n → least ≤ n
length_least order b least n e = grind arith

interface_stays : (order : Order) (b more : List ℕ) → 8 ≤ length b → Stays (interface_in order b) (interface_in order (b ++ more))
interface_stays order b more le =
    stays_known (length_in order b 20) (length_in order (b ++ more) 20) _ _ (stays_same _ _ (length_same order b more 20 le))
    (λ n is. by n (length_least order b 20 n is) (nat_lt most_captured n))
  where
    by : (n : ℕ) → 20 ≤ n → (long : Bool) → Stays {A = Interface × ℕ}
        (cond long (Err (refused 4 (causes.Description n))) (with_octets n b (link_at 8 (number_at order b 8 2) >>= λ link.
        timing_in order b (n - 4) >>= λ timing. Ok (record { link = link; snapshot = number_at order b 12 4; timing = timing }, n))))
        (cond long (Err (refused 4 (causes.Description n))) (with_octets n (b ++ more) (link_at 8 (number_at order (b ++ more) 8 2) >>= λ link.
        timing_in order (b ++ more) (n - 4) >>= λ timing. Ok (record { link = link; snapshot = number_at order (b ++ more) 12 4; timing = timing }, n))))
    by n least true = refl
    by n least false = stays_octets n b more _ _ (λ enough.
        stays_bind (link_at 8 (number_at order b 8 2)) (link_at 8 (number_at order (b ++ more) 8 2)) _ _
        (stays_same _ _ (ap (link_at 8) (number_same order b more 8 2 (omega (arith, enough, least)))))
        (λ link. stays_bind (timing_in order b (n - 4)) (timing_in order (b ++ more) (n - 4)) _ _
        (stays_same _ _ (timing_same order b more (n - 4) (n - 4) usual_timing 16 (omega (arith, enough))))
        (λ timing. rw (number_same order b more 12 4 (omega (arith, enough, least))) refl)))

of_type_stays : (order : Order) (is : List Interface) (b more : List ℕ) (type : ℕ) → 8 ≤ length b
    → Stays (block_of_type type order is b) (block_of_type type order is (b ++ more))
of_type_stays order is b more type le = grind (arith, as_block, section_in, interface_in, simple_packet, length_in, without_packet, stays_bind, section_stays, interface_stays, stamped_stays, simple_stays, stays_same, length_same)

block_stays : (order : Order) (is : List Interface) (b more : List ℕ) → Stays (block_in order is b) (block_in order is (b ++ more))
block_stays order is b more = grind (arith, stays_octets, number_at, number_same, of_type_stays)

of_number_stays : (b more : List ℕ) (first : ℕ) → Stays (format_of_number first b) (format_of_number first (b ++ more))
of_number_stays b more first = by (first == 0xa1b2c3d4) (first == 0xa1b23c4d) (first == 0xd4c3b2a1) (first == 0x4d3cb2a1) (first == 0x0a0d0d0a)
  where
    by : (micro nano little_micro little_nano section : Bool) → Stays
        (cond micro (packets_behind Big Micro b) (cond nano (packets_behind Big Nano b) (cond little_micro (packets_behind Little Micro b)
        (cond little_nano (packets_behind Little Nano b) (cond section (first_section b) (Err (refused 0 (causes.Format first))))))))
        (cond micro (packets_behind Big Micro (b ++ more)) (cond nano (packets_behind Big Nano (b ++ more))
        (cond little_micro (packets_behind Little Micro (b ++ more)) (cond little_nano (packets_behind Little Nano (b ++ more))
        (cond section (first_section (b ++ more)) (Err (refused 0 (causes.Format first))))))))
    by true nano little_micro little_nano section = stays_bind (link_of_file Big b) (link_of_file Big (b ++ more)) _ _ (link_stays Big b more) (λ x. refl)
    by false true little_micro little_nano section = stays_bind (link_of_file Big b) (link_of_file Big (b ++ more)) _ _ (link_stays Big b more) (λ x. refl)
    by false false true little_nano section = stays_bind (link_of_file Little b) (link_of_file Little (b ++ more)) _ _ (link_stays Little b more) (λ x. refl)
    by false false false true section = stays_bind (link_of_file Little b) (link_of_file Little (b ++ more)) _ _ (link_stays Little b more) (λ x. refl)
    by false false false false true = stays_bind (section_in b) (section_in (b ++ more)) _ _ (section_stays b more) (λ x. refl)
    by false false false false false = refl

-- the format by the first two octets and the first number
abbrev read : ℕ → ℕ → ℕ → List ℕ → Result (Format × ℕ) Stop
read x y first c = cond ((x == 0x1f) && (y == 0x8b)) (Err (refused 0 causes.Gzip)) (format_of_number first c)

format_stays : (b more : List ℕ) → Stays (format_in b) (format_in (b ++ more))
format_stays b more = grind (arith, stays_octets, octet_same, number_same, read, slice_index, number_at, refused, of_number_stays)

step_in_stays : (f : Format) (s : ReaderState) (b more : List ℕ) → Stays (step_in f s b) (step_in f s (b ++ more))
step_in_stays f s b more = grind (arith, stays_bind, format_in, format_stays, packet_in, packet_stays, block_in, block_stays, stays_same, stays_octets, number_same)

-- what a step answers stays, whatever follows the octets
pub step_stays : (s : ReaderState) (b more : List ℕ) → Stays (step s b) (step s (b ++ more))
step_stays s b more = step_in_stays s.format s b more

pub step_taken : (s : ReaderState) (b more : List ℕ) (x : Step × ReaderState) → step s b ≡ Ok x → step s (b ++ more) ≡ Ok x
step_taken s b more x e = subst (λ r. Stays r (step s (b ++ more))) e (step_stays s b more)

pub step_refused : (s : ReaderState) (b more : List ℕ) (fault : Fault) → step s b ≡ Err (Refused fault) → step s (b ++ more) ≡ Err (Refused fault)
step_refused s b more fault e = subst (λ r. Stays r (step s (b ++ more))) e (step_stays s b more)
