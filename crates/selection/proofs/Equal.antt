-- The Boolean tests in the definitions mean equality.
use Rattle.selection.proofs.Common.{Bool, IsTrue, false, if◌then◌else◌, refl, subst, true, ◌||◌, ◌↔◌, ◌≡◌, and_from, is_lt, SamePair, end_of}
use Rattle.selection.proofs.Common.{group_of, individual, end_cmp, same_group, same_system, exact_group, exact_system, group-itself, itself}
use Rattle.selection.proofs.Common.{system-itself, PortView, has_group_of, ends, has_side}
use native.Mathlib.Omega.{arith}
use Rattle.lagtypes.specs.declared.identifiers.SystemId.{SystemId}
use Rattle.lagtypes.specs.declared.group.End.{End}
use Rattle.lagtypes.specs.declared.group.Group.{Group}
use Rattle.lagtypes.specs.declared.party.Party.{Party}
use Rattle.lagtypes.proofs.GroupLemmas.{groups_from_pairs, pairs_from_groups}

pub system-test : (s t : SystemId) → IsTrue (same_system s t) ↔ (s ≡ t)
system-test s t = (exact_system s t, λ e. subst (λ u. same_system s u ≡ true) e (system-itself s))

group-from_test : (v w : PortView) → has_group_of v w ≡ true → SamePair (ends w) (ends v)
group-from_test v w h = pairs_from_groups (ends w) (ends v) (exact_group (group_of w.party w.partner) (group_of v.party v.partner) h)

test-from_group : (v w : PortView) → SamePair (ends w) (ends v) → has_group_of v w ≡ true
test-from_group v w h = subst (λ g. same_group (group_of w.party w.partner) g ≡ true) (groups_from_pairs (ends w) (ends v) h)
    (group-itself (group_of w.party w.partner))

pub group-test : (v w : PortView) → IsTrue (has_group_of v w) ↔ SamePair (ends w) (ends v)
group-test v w = (group-from_test v w, test-from_group v w)

-- One end of the group of a link has the partner's key and system.

abbrev ordered : Bool → End → End → Group
ordered swapped e f = if swapped then record { lower = f; upper = e } else record { lower = e; upper = f }

abbrev is_side : Group → Party → Bool
is_side g p = has_side g.lower p || has_side g.upper p

side-itself : (alone : Bool) (p : Party) → has_side (end_of alone p) p ≡ true
side-itself alone p = and_from _ _ (itself p.key.0) (system-itself p.system)

ordered-has : (swapped : Bool) (e f : End) (p : Party) → has_side f p ≡ true → is_side (ordered swapped e f) p ≡ true
ordered-has swapped e f p h = grind arith

partner-kept : (a b : Party) → is_side (group_of a b) b ≡ true
partner-kept a b =
    ordered-has (is_lt (end_cmp (end_of (individual a b) b) (end_of (individual a b) a))) (end_of (individual a b) a)
    (end_of (individual a b) b) b
    (side-itself (individual a b) b)

differs : (a b : Party) (g : Group) (same : Bool) → same_group (group_of a b) g ≡ same → is_side g b ≡ false → same ≡ false
differs a b g false e h = refl
differs a b g true e h =
    let kept : is_side g b ≡ true = subst (λ k. is_side k b ≡ true) (exact_group (group_of a b) g e) (partner-kept a b) in absurd cc

-- so a group with no such end is another one
pub group-without_partner : (a b : Party) (g : Group) → (has_side g.lower b || has_side g.upper b) ≡ false → same_group (group_of a b) g ≡ false
group-without_partner a b g h = differs a b g (same_group (group_of a b) g) refl h
