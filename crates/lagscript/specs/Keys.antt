-- The keys of a table, and their values (profile).
use Rattle.std.specs.Prelude.{ℕ, ℤ, pos, negsuc, ◌&&◌, Bool, true, List, [], ◌∷◌, nat_le, nat_lt, if◌then◌else◌, Option, Some, None}
use Rattle.std.specs.Prelude.{option_and_then, option_map}
use Rattle.std.specs.List.{list_any}
use Rattle.std.specs.Str.{bytes_eq}
use Rattle.toml.specs.Data.{Data, integer, boolean, Items, no_items, item, Members, no_members, member, get_member, as_array, as_str}
use Rattle.lagtypes.specs.declared.identifiers.Key.{Key}
use Rattle.lagscript.specs.Words.{mac_of}

-- every key of the table is in the list
abbrev pub keys_among : List (List ℕ) → Members → Bool
keys_among known no_members = true
keys_among known (member k d ms) = list_any (λ name. bytes_eq name k) known && keys_among known ms

-- the value, read by this function, or the default if it is left out
abbrev pub value_or : {A : Type 0} → Option A → (Data → Option A) → Option Data → Option A
value_or default read None = default
value_or default read (Some d) = read d

-- The value of a key: its name, how its value is read, and its default if it is left out. Without a default, the key
-- must be there.
abbrev pub value_at : {A : Type 0} → List ℕ → (Data → Option A) → Option A → Members → Option A
value_at name read default ms = value_or default read (get_member name ms)

-- a whole number from 0 up to, and without, this bound; None for any other
abbrev pub natural_below : ℕ → ℤ → Option ℕ
natural_below bound (pos n) = if nat_lt n bound then Some n else None
natural_below bound (negsuc n) = None

-- the value of an integer that is not negative and below this bound; None for any other value
abbrev pub integer_in : ℕ → Data → Option ℕ
integer_in bound (integer z) = natural_below bound z
integer_in bound _ = None

-- the number, unless it is 0
abbrev pub from_one : ℕ → Option ℕ
from_one n = if nat_le 1 n then Some n else None

-- the limit of a cable, an integer of 1 to 65535; None for any other value
abbrev pub limit_in : Data → Option ℕ
limit_in d = option_and_then from_one (integer_in 65536 d)

-- the value of a Boolean; None for any other value
abbrev pub flag_in : Data → Option Bool
flag_in (boolean b) = Some b
flag_in _ = None

-- the six octets of a string that is a MAC address with dashes (00-11-22-AA-BB-CC); None for any other value
abbrev pub mac_in : Data → Option (List ℕ)
mac_in d = option_and_then mac_of (as_str d)

-- the operational key that is an integer of 0 to 65535; None for any other value
abbrev pub key_in : Data → Option Key
key_in d = option_map (λ n. record { 0 = n }) (integer_in 65536 d)

-- every item is read by this function, if it can read each
abbrev pub each_in : {A : Type 0} → (Data → Option A) → Items → Option (List A)
each_in read no_items = Some []
each_in read (item d ds) = option_and_then (λ x. option_map (λ xs. x ∷ xs) (each_in read ds)) (read d)

-- an array of values that this function reads
abbrev pub list_in : {A : Type 0} → (Data → Option A) → Data → Option (List A)
list_in read d = option_and_then (each_in read) (as_array d)

-- the elements of a list of exactly two
abbrev pub just_two : {A : Type 0} → Option (List A) → Option (A × A)
just_two (Some (a ∷ b ∷ [])) = Some (a, b)
just_two _ = None

-- the two port numbers in an array of exactly two; None for any other value
abbrev pub ends_in : Data → Option (ℕ × ℕ)
ends_in d = just_two (list_in (integer_in 65536) d)
