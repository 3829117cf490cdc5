-- What an event does: nothing, one cable changes, one system is called, or both. Each law about events is proved of these.
use Rattle.lagworld.proofs.Common.{Bool, IsSomeAnd, List, None, Ok, Option, Result, Some, [], is_some, map, option_and_then, refl, slice_get, suc}
use Rattle.lagworld.proofs.Common.{true, zero, ℕ, ◌∷◌, ◌≡◌, Vec, AggId, Side, value_of, Stamp, PortChange, Answer, SystemFault, Call, Configure}
use Rattle.lagworld.proofs.Common.{Force, Move_conversation, Restart, Set_link, Event, Reply, Algorithms, DeliversFrom, DoesEvent, InHalf, LosesFrom}
use Rattle.lagworld.proofs.Common.{RepeatsFrom, WorldEmits, WorldOffers, WorldReceives, has_cable, has_system, side_of, with_link_at, HalfAnswers}
use Rattle.lagworld.proofs.Common.{HalfTicks, forced_if_accepted, or_refused, with_changes_counted, link_ends, AreItems, HalfState, ItemValue}
use Rattle.lagworld.proofs.Common.{LinkState, WorldState, cut, emptied, joined, port_at, towards, with_links, with_towards}
use native.Mathlib.Omega.{arith}
use Rattle.lagscript.specs.EventValues.{cable_named, system_named}
use Rattle.cables.specs.declared.item.Stamp.TheVariants as stamp
use Rattle.lagsystem.specs.declared.drive.Reply.TheVariants as answer
use Rattle.lagscript.specs.declared.event.Event.TheVariants as event
use Rattle.lagworld.specs.declared.reply.Reply.TheVariants as reply

-- what is recorded of a system that has answered
pub data Recording : Type 0 where
  no_record : Recording
  changes_counted : Recording
  if_forced : (agg : AggId) (conv : ℕ) → Recording

-- the answer to Force
abbrev pub answer_to_force : Answer → Result Unit SystemFault
answer_to_force (answer.Force a) = a
answer_to_force _ = Ok tt

abbrev pub recorded : Recording → Answer → HalfState → HalfState
recorded no_record a h = h
recorded changes_counted a h = with_changes_counted h
recorded (if_forced agg conv) a h = forced_if_accepted (answer_to_force a) agg conv h

-- the reply that says what a system answered; Set_link told it this of the cable
abbrev pub told : Bool → Answer → Reply
told up (answer.SetLink a) = or_refused (λ done. reply.Sensed up) a
told up (answer.Configure a) = or_refused (λ done. reply.Configured done) a
told up (answer.MoveConversation a) = or_refused (λ done. reply.Moved) a
told up (answer.Force a) = or_refused (λ done. reply.Forced) a
told up _ = reply.Restarted

-- one system answers, and that is recorded and told
abbrev pub HalfAsked : (ℕ → ℕ → ℕ → Type 0) → Call → Recording → Bool → HalfState → Reply → HalfState → Type 0
HalfAsked gives call kept up old r new =
    (a : Answer) × (mid : HalfState) × HalfAnswers gives call a old mid × (r ≡ told up a) × (new ≡ recorded kept a mid)

-- where its changes are not counted, a call changes no party
abbrev pub ChangesNoParty : Recording → Call → Type 0
ChangesNoParty changes_counted call = Unit
ChangesNoParty _ call = (call ≡ Restart → ⊥) × ((n : ℕ) (c : PortChange) → call ≡ Configure n c → ⊥)

-- the cable at this index becomes another between the same ports, with no item but those on it
pub record Shrinks (i : ℕ) (l m : LinkState) (links : List LinkState) : Type 0 where
  pub there : slice_get links i ≡ Some l
  pub ends : link_ends m ≡ link_ends l
  pub ports : (s : Side) → port_at s m ≡ port_at s l
  pub items : (s : Side) (j : WorldState) → AreItems s (towards s l) j → AreItems s (towards s m) j

pub data Effect : Type 0 where
  nothing : (r : Reply) → Effect
  shrinks : (i : ℕ) (l m : LinkState) (r : Reply) → Effect
  ticks : (s : Side) (count : ℕ) → Effect
  asks : (s : Side) (call : Call) (kept : Recording) (up : Bool) → Effect
  restarts : (s : Side) → Effect
  receives : (s : Side) (p : ℕ) (item : ItemValue) → Effect
  delivers : (s : Side) (i : ℕ) (l m : LinkState) (item : ItemValue) → Effect
  emits : (s : Side) (p : ℕ) → Effect
  offers : (s : Side) (agg : AggId) (octets : List ℕ) → Effect

abbrev pub DoesEffect : Algorithms → Event → WorldState → Effect → Reply → WorldState → Type 0
DoesEffect gives e old (nothing a) r new = (r ≡ a) × (new ≡ old)
DoesEffect gives e old (shrinks i l m a) r new = Shrinks i l m old.links × (r ≡ a) × (new ≡ with_link_at i m old)
DoesEffect gives e old (ticks s count) r new = InHalf s (HalfTicks (gives s) count) old new × (r ≡ reply.Ticked)
DoesEffect gives e old (asks s call kept up) r new = ChangesNoParty kept call
    × InHalf s (λ h k. HalfAsked (gives s) call kept up h r k) old new
DoesEffect gives e old (restarts s) r new =
    InHalf s (λ h k. HalfAsked (gives s) Restart changes_counted true h r k) (with_links old (map emptied old.links)) new
DoesEffect gives e old (receives s p item) r new = WorldReceives gives s p item old r new
DoesEffect gives e old (delivers s i l m item) r new = Shrinks i l m old.links
    × WorldReceives gives s (port_at s l) item (with_link_at i m old) r new
DoesEffect gives e old (emits s p) r new = WorldEmits gives s p old r new
DoesEffect gives e old (offers s agg octets) r new =
    (n : ℕ) × (frame : Vec ℕ) × (side_of n ≡ Some s) × (e ≡ event.Offer n agg frame) × WorldOffers gives s agg octets old r new

-- what is on the cable towards a system is lost, arrives, or arrives and stays
abbrev pub lost : Side → ℕ → LinkState → List ItemValue → Effect
lost s i l [] = nothing reply.Empty
lost s i l (item ∷ rest) = shrinks i l (with_towards s rest l) reply.Lost

abbrev pub delivered : Side → ℕ → LinkState → List ItemValue → Effect
delivered s i l [] = nothing reply.Empty
delivered s i l (item ∷ rest) = delivers s i l (with_towards s rest l) item

abbrev pub repeated_item : Side → ℕ → List ℕ → Stamp → Effect
repeated_item s p octets (stamp.Control count) = receives s p (record { octets = octets; stamp = stamp.Control count })
repeated_item s p octets (stamp.Data system agg conv serial) = nothing reply.NotControl

abbrev pub repeated : Side → LinkState → List ItemValue → Effect
repeated s l [] = nothing reply.Empty
repeated s l (item ∷ rest) = repeated_item s (port_at s l) item.octets item.stamp

-- the effect of an event, by the cables; none where its system or cable does not exist
abbrev pub on_system : ℕ → (Side → Option Effect) → Option Effect
on_system n f = option_and_then f (side_of n)

abbrev pub on_cable : ℕ → List LinkState → (ℕ → LinkState → Option Effect) → Option Effect
on_cable zero links f = None
on_cable (suc i) links f = option_and_then (f i) (slice_get links i)

abbrev pub effect : List LinkState → Event → Option Effect
effect links (event.Tick n count) = on_system n (λ s. Some (ticks s count))
effect links (event.Emit n p) = on_system n (λ s. Some (emits s p))
effect links (event.Deliver c n) = on_system n (λ s. on_cable c links (λ i l. Some (delivered s i l (towards s l))))
effect links (event.Lose c n) = on_system n (λ s. on_cable c links (λ i l. Some (lost s i l (towards s l))))
effect links (event.Repeat c n) = on_system n (λ s. on_cable c links (λ i l. Some (repeated s l (towards s l))))
effect links (event.Cut c) = on_cable c links (λ i l. Some (shrinks i l (cut l) reply.Cut))
effect links (event.Join c) = on_cable c links (λ i l. Some (shrinks i l (joined l) reply.Joined))
effect links (event.Sense c n) =
    on_system n (λ s. on_cable c links (λ i l. Some (asks s (Set_link (port_at s l) l.whole) no_record l.whole)))
effect links (event.Restart n) = on_system n (λ s. Some (restarts s))
effect links (event.Configure n p change) = on_system n (λ s. Some (asks s (Configure p change) changes_counted true))
effect links (event.Offer n agg octets) = on_system n (λ s. Some (offers s agg octets.items))
effect links (event.Move n agg conv p) = on_system n (λ s. Some (asks s (Move_conversation agg conv p) no_record true))
effect links (event.Force n agg conv) = on_system n (λ s. Some (asks s (Force agg conv) (if_forced agg conv) true))

-- ---- each event has its effect

then_some : {A : Type 0} (o : Option A) (f : A → Option Effect) (P : A → Type 0) (Q : Effect → Type 0) → IsSomeAnd o P
    → ((x : A) → o ≡ Some x → P x → IsSomeAnd (f x) Q) → IsSomeAnd (option_and_then f o) Q
then_some o f P Q h k = grind arith

loses : (gives : Algorithms) (e : Event) (s : Side) (i : ℕ) (l : LinkState) (xs : List ItemValue) (old new : WorldState) (r : Reply)
    → slice_get old.links i ≡ Some l → towards s l ≡ xs → LosesFrom s i l xs old r new → DoesEffect gives e old (lost s i l xs) r new
loses gives e s i l xs old new r there h x = grind arith

arrives : (gives : Algorithms) (e : Event) (s : Side) (i : ℕ) (l : LinkState) (xs : List ItemValue) (old new : WorldState) (r : Reply)
    → slice_get old.links i ≡ Some l → towards s l ≡ xs → DeliversFrom gives s i l xs old r new → DoesEffect gives e old (delivered s i l xs) r new
arrives gives e s i l xs old new r there h x = grind arith

repeats : (gives : Algorithms) (e : Event) (s : Side) (l : LinkState) (xs : List ItemValue) (old new : WorldState) (r : Reply)
    → RepeatsFrom gives s l xs old r new → DoesEffect gives e old (repeated s l xs) r new
repeats gives e s l xs old new r x = grind arith

pub does_some : (gives : Algorithms) (e : Event) (r : Reply) (old new : WorldState) → DoesEvent gives old e r new
    → IsSomeAnd (effect old.links e) (λ d. DoesEffect gives e old d r new)
does_some gives (event.Tick n count) r old new x = then_some (side_of n) _ _ _ x (λ s e y. y)
does_some gives (event.Emit n p) r old new x = then_some (side_of n) _ _ _ x (λ s e y. y)
does_some gives (event.Deliver c n) r old new x = grind arith
does_some gives (event.Lose c n) r old new x = grind arith
does_some gives (event.Repeat c n) r old new x = grind arith
does_some gives (event.Cut c) r old new x = grind arith
does_some gives (event.Join c) r old new x = grind arith
does_some gives (event.Sense c n) r old new x = grind arith
does_some gives (event.Restart n) r old new x = grind arith
does_some gives (event.Configure n p change) r old new x = grind arith
does_some gives (event.Offer n agg octets) r old new x = then_some (side_of n) _ _ _ x (λ s e y. (n, octets, e, refl, y))
does_some gives (event.Move n agg conv p) r old new x = grind arith
does_some gives (event.Force n agg conv) r old new x = grind arith

pub does_effect : (gives : Algorithms) (e : Event) (r : Reply) (old new : WorldState) → DoesEvent gives old e r new
    → (d : Effect) × (effect old.links e ≡ Some d) × DoesEffect gives e old d r new
does_effect gives e r old new x = value_of (effect old.links e) _ (does_some gives e r old new x)

-- ---- what an event that acts names is there

pub some_there : {X : Type 0} (o : Option X) (P : X → Type 0) → IsSomeAnd o P → is_some o ≡ true
some_there o P h = grind arith

pub named : (gives : Algorithms) (e : Event) (r : Reply) (old new : WorldState) → DoesEvent gives old e r new
    → (has_cable old (cable_named e) ≡ true) × (has_system (system_named e) ≡ true)
named gives e r old new h = grind arith
