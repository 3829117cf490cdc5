-- What a step answers is the same whatever follows the octets.
use Rattle.std.proofs.Common.{◌≡◌, ◌++◌, ◌≤◌, ◌<◌, ◌+◌, ◌*◌, ◌^◌, ◌∙◌, not, ℕ, zero, suc, List, length, drop, slice_index, nat_lt, Result, Ok, Err}
use Rattle.std.proofs.Common.{ap, refl, arith, length-append, length-drop, ltb-false}
use Rattle.std.proofs.lemmas.Bool.{le-ltb}
use Rattle.std.proofs.lemmas.List.{drop-append-le}
use Rattle.std.proofs.Math.ListN.{get_or-append}
use Rattle.std.specs.Prelude.{⊤}
use Rattle.byteorder.specs.Endian.{big_from, little_from}
use Rattle.captures.specs.declared.fault.Stop.{Stop}
use Rattle.captures.specs.declared.fault.Stop.TheVariants.{Wants, Refused}
use Rattle.captures.specs.declared.link.LinkType.{LinkType}
use Rattle.captures.specs.declared.number.Order.{Order}
use Rattle.captures.specs.declared.number.Order.TheVariants.{Big}
use Rattle.captures.specs.declared.time.Unit.{Unit}
use Rattle.captures.specs.Faults.{refused}
use Rattle.captures.specs.Numbers.{number_at}
use Rattle.captures.specs.Pcap.{link_of_file, packet_in, whole}
use Rattle.captures.specs.Pcapng.{length_in, order_of_section, section_in}
use Rattle.captures.specs.Reading.{◌>>=◌, with_octets}

-- an answer or a refusal is the same; where octets are wanted, anything may come
abbrev pub Stays : {A : Type 0} → Result A Stop → Result A Stop → Type 0
Stays (Ok x) r = r ≡ Ok x
Stays (Err (Wants n)) r = ⊤
Stays (Err (Refused fault)) r = r ≡ Err (Refused fault)

pub stays_same : {A : Type 0} (r t : Result A Stop) → t ≡ r → Stays r t
stays_same r t e = grind arith

pub stays_bind : {A B : Type 0} (r t : Result A Stop) (f g : A → Result B Stop) → Stays r t → ((x : A) → Stays (f x) (g x)) → Stays (r >>= f) (t >>= g)
stays_bind r t f g e h = grind arith

-- the same, where the value is known
pub stays_known : {A B : Type 0} (r t : Result A Stop) (f g : A → Result B Stop) → Stays r t → ((x : A) → r ≡ Ok x → Stays (f x) (g x))
    → Stays (r >>= f) (t >>= g)
stays_known r t f g e h = grind arith

pub stays_octets : {A : Type 0} (n : ℕ) (b more : List ℕ) (r t : Result A Stop) → (n ≤ length b → Stays r t)
    → Stays (with_octets n b r) (with_octets n (b ++ more) t)
stays_octets n b more r t h = grind (arith, nat_lt, Stays, ltb-false, le-ltb, length-append)

pub octet_same : (b more : List ℕ) (i : ℕ) → i < length b → slice_index (b ++ more) i ≡ slice_index b i
octet_same b more i lt = get_or-append b more 0 i lt

big_same : (i n : ℕ) (b more : List ℕ) → i + n ≤ length b → big_from i n (b ++ more) ≡ big_from i n b
big_same i zero b more le = refl
big_same i (suc n) b more le = ap (λ x. x * 256 ^ n + big_from (suc i) n (b ++ more)) (octet_same b more i (omega (arith, le)))
    ∙ ap (λ x. slice_index b i * 256 ^ n + x) (big_same (suc i) n b more (omega (arith, le)))

little_same : (i n : ℕ) (b more : List ℕ) → i + n ≤ length b → little_from i n (b ++ more) ≡ little_from i n b
little_same i zero b more le = refl
little_same i (suc n) b more le = ap (λ x. x + 256 * little_from (suc i) n (b ++ more)) (octet_same b more i (omega (arith, le)))
    ∙ ap (λ x. slice_index b i + 256 * x) (little_same (suc i) n b more (omega (arith, le)))

pub number_same : (order : Order) (b more : List ℕ) (at width : ℕ) → at + width ≤ length b → number_at order (b ++ more) at width ≡ number_at order b at width
number_same order b more at width le = grind (arith, big_from, drop-append-le, big_same, drop, length-drop, little_same)

pub length_same : (order : Order) (b more : List ℕ) (least : ℕ) → 8 ≤ length b → length_in order (b ++ more) least ≡ length_in order b least
length_same order b more least le = grind (arith, not, nat_lt, number_same)

pub section_stays : (b more : List ℕ) → Stays (section_in b) (section_in (b ++ more))
section_stays b more = stays_octets 16 b more _ _ (λ le.
    stays_bind (order_of_section b) (order_of_section (b ++ more)) _ _
    (stays_same _ _ (rw (number_same Big b more 8 4 (omega (arith, le))) refl))
    (λ order. stays_bind (length_in order b 28) (length_in order (b ++ more) 28) _ _
    (stays_same _ _ (length_same order b more 28 (omega (arith, le))))
    (λ n. stays_same _ _ (rw (number_same order b more 12 2 (omega (arith, le)), number_same order b more 14 2 (omega (arith, le))) refl))))

pub link_stays : (order : Order) (b more : List ℕ) → Stays (link_of_file order b) (link_of_file order (b ++ more))
link_stays order b more = grind (arith, stays_octets, number_same)

-- the captured octets end at the same offset
pub whole_stays : (b more : List ℕ) (start captured other at : ℕ) → other ≡ captured → Stays (whole b start captured at) (whole (b ++ more) start other at)
whole_stays b more start captured other at e = grind (arith, Stays, whole, nat_lt, refused, with_octets, stays_octets)

pub packet_stays : (order : Order) (unit : Unit) (link : LinkType) (b more : List ℕ)
    → Stays (packet_in order unit link b) (packet_in order unit link (b ++ more))
packet_stays order unit link b more = grind (arith, stays_octets, stays_bind, whole, number_at, number_same)
