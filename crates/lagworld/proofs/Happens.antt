-- Each event of a world is an event of the model.
use Rattle.lagworld.proofs.Common.{Bool, List, None, Some, [], ap, map, refl, slice_get, slice_set, suc, true, ℕ, ◌≡◌, AggId, ModelEvent, Happens}
use Rattle.lagworld.proofs.Common.{Message, One, Side, Two, at_cable, at_side, with_messages, Move_conversation, Set_link, Reply, InHalf}
use Rattle.lagworld.proofs.Common.{with_link_at, HalfMoves, HalfSenses, HalfTicks, item_message, is_whole, messages, model_world, world_setup}
use Rattle.lagworld.proofs.Common.{HalfState, ItemValue, LinkState, WorldState, change_count_in, cut, element_numbered, half, history_at, joined}
use Rattle.lagworld.proofs.Common.{port_at, taken_in, with_towards}
use native.Mathlib.Omega.{arith}
use Rattle.lagmodel.specs.World.{Event}
use Rattle.lagworld.proofs.OneSystem.{told_moves, quietly, ticks_moves, keeping_call, quiet_call}
use Rattle.lagsystem.specs.declared.drive.Reply.TheVariants as answer
use Rattle.lagworld.proofs.Cables.{nth_set, nth_same, end_is}

-- Ticks are one call of the law's.
pub tick_happens : (gives : ℕ → ℕ → ℕ → Type 0) (s : Side) (n : ℕ) (old new : WorldState) → InHalf s (HalfTicks gives n) old new
    → Happens (world_setup old) (Event.Tick s n) (model_world old) (model_world new)
tick_happens gives s n old new x = let h = half s new in
    let m = ticks_moves gives n (half s old) h x.0 in
    keeping_call s ModelEvent.Tick 0 true None h old.links old new x.1 (λ e. cc) refl
    (quietly s 0 h old (ap (λ (h : HalfState). h.flows) m.2) (λ p. ap (λ (h : HalfState). taken_in (history_at h.histories p)) m.2))
    m.0 (λ p. ap (λ (h : HalfState). change_count_in (history_at h.histories p)) m.2)

pub sense_happens : (gives : ℕ → ℕ → ℕ → Type 0) (s : Side) (i : ℕ) (l : LinkState) (r : Reply) (old new : WorldState) → slice_get old.links i ≡ Some l
    → InHalf s (λ h k. HalfSenses gives (port_at s l) l.whole h r k) old new
    → Happens (world_setup old) (Event.Sense (suc i) s) (model_world old) (model_world new)
sense_happens gives s i l r old new there x = let m = x.0.1.answers.moves in
    let c = quiet_call gives s (Set_link (port_at s l) l.whole) (answer.SetLink x.0.0) (ModelEvent.Set_link (port_at s l) l.whole) 0
    (half s new) old new x.0.1 x.1 (λ e. cc) refl (told_moves (half s old).state (half s new).state m.2 m.3 m.4) in
    grind (arith, world_setup, is_whole, slice_get, model_world, end_is, port_at)

pub move_happens : (gives : ℕ → ℕ → ℕ → Type 0) (s : Side) (agg : AggId) (conv p : ℕ) (r : Reply) (old new : WorldState)
    → InHalf s (λ h k. HalfMoves gives agg conv p h r k) old new
    → Happens (world_setup old) (Event.Move_conversation s agg.0 conv p) (model_world old) (model_world new)
move_happens gives s agg conv p r old new x = let m = x.0.1.answers.moves in
    quiet_call gives s (Move_conversation agg conv p) (answer.MoveConversation x.0.0) ModelEvent.Move_conversation 0 (half s new) old new
    x.0.1 x.1 (λ e. cc) refl (told_moves (half s old).state (half s new).state m.2 m.3 m.4)

-- One cable is another.
other_line : (i : ℕ) (m : LinkState) (old : WorldState) (whole : ℕ → Bool) (on_cable : Side → ℕ → List Message)
    → ((c : ℕ) → is_whole (element_numbered (slice_set old.links i m) c) ≡ whole c)
    → ((s : Side) (c : ℕ) → messages s (element_numbered (slice_set old.links i m) c) ≡ on_cable s c)
    → model_world (with_link_at i m old) ≡ record (model_world old) { whole = whole; on_cable = on_cable }
other_line i m old whole on_cable a b = grind arith

-- Cables that are cut, joined or lose their first item.
pub cut_happens : (i : ℕ) (l : LinkState) (old : WorldState) → slice_get old.links i ≡ Some l
    → Happens (world_setup old) (Event.Cut (suc i)) (model_world old) (model_world (with_link_at i (cut l) old))
cut_happens i l old there = other_line i (cut l) old _ _ (nth_set is_whole old.links i (cut l) l there) on_cable
  where
    on_cable : (s : Side) (c : ℕ) → messages s (element_numbered (slice_set old.links i (cut l)) c) ≡ at_cable
        (λ c. messages s (element_numbered old.links c)) (suc i) [] c
    on_cable One c = nth_set (messages One) old.links i (cut l) l there c
    on_cable Two c = nth_set (messages Two) old.links i (cut l) l there c

pub join_happens : (i : ℕ) (l : LinkState) (old : WorldState) → slice_get old.links i ≡ Some l
    → Happens (world_setup old) (Event.Join (suc i)) (model_world old) (model_world (with_link_at i (joined l) old))
join_happens i l old there = other_line i (joined l) old _ _ (nth_set is_whole old.links i (joined l) l there)
    (λ s c. nth_same (messages s) old.links i (joined l) l there refl c)

-- the first item of a list is taken off
pub popped_world : (s : Side) (i : ℕ) (l : LinkState) (rest : List ItemValue) (old : WorldState) → slice_get old.links i ≡ Some l
    → model_world (with_link_at i (with_towards s rest l) old) ≡ with_messages (model_world old) (suc i) s (map item_message rest)
popped_world s i l rest old there =
    other_line i (with_towards s rest l) old _ _ (nth_same is_whole old.links i (with_towards s rest l) l there refl) (on_cable s)
  where
    on_cable : (s t : Side) (c : ℕ) → messages t (element_numbered (slice_set old.links i (with_towards s rest l)) c) ≡ at_side
        (model_world old).on_cable s (at_cable ((model_world old).on_cable s) (suc i) (map item_message rest)) t c
    on_cable One One c = nth_set (messages One) old.links i (with_towards One rest l) l there c
    on_cable One Two c = nth_same (messages Two) old.links i (with_towards One rest l) l there refl c
    on_cable Two One c = nth_same (messages One) old.links i (with_towards Two rest l) l there refl c
    on_cable Two Two c = nth_set (messages Two) old.links i (with_towards Two rest l) l there c
