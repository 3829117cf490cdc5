-- The serial numbers of each conversation are 0, 1, 2 and so on.
use Rattle.lagmodel.proofs.Common.{Bool, List, None, Option, Some, [], arith, false, get_or, inl, inr, length, length-append, subst, sym, true, ℕ}
use Rattle.lagmodel.proofs.Common.{◌++◌, ◌<◌, ◌∙◌, ◌∷◌, ◌≡◌, cases_lt, CountsFromZero, Act, Move, act, ModelCall, Receive, CallHappens, Control, Data}
use Rattle.lagmodel.proofs.Common.{DeliversFirst, Event, Happens, LosesFirst, Message, RepeatsFirst, Run, SensesCable, Side, World, WorldSetup}
use Rattle.lagmodel.proofs.Common.{end_at, first_world, handed_up, sent_after, with_messages, world_after, world_after_all}
use Rattle.std.proofs.lemmas.List.{get_or_append_left, get_or_push}
use Rattle.lagmodel.proofs.Lanes.{two_cases}

abbrev pub IsCount : List ℕ → Type 0
IsCount xs = (i : ℕ) → i < length xs → get_or xs i 0 ≡ i

one_more : (xs : List ℕ) → IsCount xs → IsCount (xs ++ length xs ∷ [])
one_more xs h i lt = grind (arith, cases_lt, get_or_append_left, length-append, get_or_push)

pub counted_act : (o : Option Act) (sent : ℕ → ℕ → List ℕ) → ((g k : ℕ) → IsCount (sent g k)) → (g k : ℕ) → IsCount (sent_after o sent g k)
counted_act o sent h g k = grind (arith, two_cases, IsCount, one_more)

counted_move : (x : WorldSetup) (s : Side) (stamp : ℕ) (m : Move × Bool) (w : World) → CountsFromZero w → CountsFromZero (world_after x s stamp m w)
counted_move x s stamp m w h i g k = grind (arith, counted_act, act)

counted_all : (x : WorldSetup) (s : Side) (stamp : ℕ) (ms : List (Move × Bool)) (w : World) → CountsFromZero w → CountsFromZero (world_after_all x s stamp ms w)
counted_all x s stamp [] w h = h
counted_all x s stamp (m ∷ ms) w h = counted_all x s stamp ms (world_after x s stamp m w) (counted_move x s stamp m w h)

counted_call : (x : WorldSetup) (s : Side) (call : ModelCall) (stamp : ℕ) (old mid new : World) → CountsFromZero mid
    → CallHappens x s call stamp old mid new → CountsFromZero new
counted_call x s call stamp old mid new h z = subst CountsFromZero (sym z.2.2) (counted_all x s stamp z.0 mid h)

counted_comes : (x : WorldSetup) (c : ℕ) (to : Side) (port : Option ℕ) (on_cable : List Message) (old new : World) → CountsFromZero old
    → DeliversFirst x c to port on_cable old new → CountsFromZero new
counted_comes x c to port [] old new h z = subst CountsFromZero (sym z) h
counted_comes x c to None (m ∷ ms) old new h z = absurd z
counted_comes x c to (Some p) (Control pdu stamp ∷ ms) old new h z = counted_call x to (Receive p (Some pdu)) stamp old
    (with_messages old c to ms) new h z
counted_comes x c to (Some p) (Data origin g k n ∷ ms) old new h z = go z.0 z.1
  where
    go : (up : Bool) → CallHappens x to (Receive p None) 0 old (handed_up up (Data origin g k n) (with_messages old c to ms)) new → CountsFromZero new
    go true y = counted_call x to (Receive p None) 0 old (handed_up true (Data origin g k n) (with_messages old c to ms)) new h y
    go false y = counted_call x to (Receive p None) 0 old (with_messages old c to ms) new h y

counted_again : (x : WorldSetup) (c : ℕ) (to : Side) (port : Option ℕ) (on_cable : List Message) (old new : World) → CountsFromZero old
    → RepeatsFirst x c to port on_cable old new → CountsFromZero new
counted_again x c to port [] old new h z = subst CountsFromZero (sym z) h
counted_again x c to port (Data origin g k n ∷ ms) old new h z = subst CountsFromZero (sym z) h
counted_again x c to None (Control pdu stamp ∷ ms) old new h z = absurd z
counted_again x c to (Some p) (Control pdu stamp ∷ ms) old new h z = counted_call x to (Receive p (Some pdu)) stamp old old new h z

counted_lost : (c : ℕ) (to : Side) (on_cable : List Message) (old new : World) → CountsFromZero old → LosesFirst c to on_cable old new → CountsFromZero new
counted_lost c to on_cable old new h z = grind arith

counted_senses : (x : WorldSetup) (s : Side) (port : Option ℕ) (up : Bool) (old new : World) → CountsFromZero old
    → SensesCable x s port up old new → CountsFromZero new
counted_senses x s None up old new h z = absurd z
counted_senses x s (Some p) up old new h z = counted_call x s (ModelCall.Set_link p up) 0 old old new h z

pub counted_happens : (x : WorldSetup) (e : Event) (old new : World) → CountsFromZero old → Happens x e old new → CountsFromZero new
counted_happens x (Event.Tick s n) old new h z = counted_call x s ModelCall.Tick 0 old old new h z
counted_happens x (Event.Emit s p) old new h z = counted_call x s ModelCall.Transmit 0 old old new h z
counted_happens x (Event.Deliver c to) old new h z = counted_comes x c to (end_at x.cables to c) (old.on_cable to c) old new h z
counted_happens x (Event.Lose c to) old new h z = counted_lost c to (old.on_cable to c) old new h z
counted_happens x (Event.Repeat c to) old new h z = counted_again x c to (end_at x.cables to c) (old.on_cable to c) old new h z
counted_happens x (Event.Cut c) old new h z = subst CountsFromZero (sym z) h
counted_happens x (Event.Join c) old new h z = subst CountsFromZero (sym z) h
counted_happens x (Event.Sense c s) old new h z = counted_senses x s (end_at x.cables s c) (old.whole c) old new h z
counted_happens x (Event.Restart s) old new h z = subst CountsFromZero (sym z.2) h
counted_happens x (Event.Configure s p change) old new h z = counted_call x s ModelCall.Configure 0 old old new h z
counted_happens x (Event.Offer s g frame) old new h z = counted_call x s ModelCall.Offer 0 old old new h z
counted_happens x (Event.Move_conversation s g k p) old new h z = counted_call x s ModelCall.Move_conversation 0 old old new h z
counted_happens x (Event.Force s g k) old new h z = elim z [
  | inl e ↦ subst CountsFromZero (sym e) h
  | inr y ↦ counted_call x s (ModelCall.Force g k) 0 old _ new h y
]

counted_run : (x : WorldSetup) (es : List Event) (old new : World) → CountsFromZero old → Run x es old new → CountsFromZero new
counted_run x [] old new h z = subst CountsFromZero (sym z) h
counted_run x (e ∷ es) old new h z = counted_run x es z.0 new (counted_happens x e old z.0 h z.1) z.2

pub none_sent : (i : ℕ) → i < 0 → ⊥
none_sent i lt = omega arith

pub counts_from_zero : (x : WorldSetup) (es : List Event) (w : World) → Run x es (first_world x) w → CountsFromZero w
counts_from_zero x es w z = counted_run x es (first_world x) w (λ s g k i lt. absurd (none_sent i lt)) z
