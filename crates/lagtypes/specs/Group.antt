-- Link Aggregation Groups (6.3.6).
use Rattle.std.specs.Prelude.{◌≡◌, Bool, not, ◌&&◌, ◌⊎◌, Some, None, if◌then◌else◌}
use Rattle.std.specs.Ordering.{is_lt}
use Rattle.lagtypes.specs.declared.party.Party.{Party}
use Rattle.lagtypes.specs.declared.group.End.{End}
use Rattle.lagtypes.specs.declared.group.Group.{Group}
use Rattle.lagtypes.specs.Order.{end_cmp}

-- the link is Individual unless both ends are aggregatable
abbrev pub individual : Party → Party → Bool
individual one other = not (one.aggregatable && other.aggregatable)

-- one end of a link: the system and the key, and for an Individual link the port
abbrev pub end_of : Bool → Party → End
end_of alone party = record { system = party.system; key = party.key; port = if alone then Some party.port else None }

-- the two ends of a link, in the order of the arguments
pub record Pair : Type 0 where
  pub one : End
  pub other : End

-- the ends of the link between two parties, in the order of the arguments
abbrev pub pair_of : Party → Party → Pair
pair_of one other = record { one = end_of (individual one other) one; other = end_of (individual one other) other }

-- equal as unordered pairs
abbrev pub SamePair : Pair → Pair → Type 0
SamePair p q = ((p.one ≡ q.one) × (p.other ≡ q.other)) ⊎ ((p.one ≡ q.other) × (p.other ≡ q.one))

-- a group has the lower end of the pair first (profile)
abbrev pub lower_first : Pair → Group
lower_first p = if is_lt (end_cmp p.other p.one) then record { lower = p.other; upper = p.one } else
    record { lower = p.one; upper = p.other }

-- the group of the link between two ends
abbrev pub group_of : Party → Party → Group
group_of one other = lower_first (pair_of one other)

-- the lower end of a group
abbrev pub lower : Group → End
lower g = g.lower

-- the upper end of a group
abbrev pub upper : Group → End
upper g = g.upper
