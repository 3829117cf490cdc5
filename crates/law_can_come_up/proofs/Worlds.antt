-- Late rounds of a world of two systems with one port each, by what each system does in them.
use Rattle.std.proofs.Common.{List, None, Ok, Some, [], false, inl, inr, length, refl, slice_get, subst, suc, true, zero, ℕ, ◌+◌, ◌∷◌, ◌≡◌}
use Rattle.std.proofs.lemmas.Option.{none-some, same_Some}
use Rattle.lagmodel.specs.World.{One, Side, Two}
use Rattle.portmachines.specs.Machines.{Machines}
use Rattle.portmachines.specs.Transmit.{is_due}
use Rattle.slowpdu.specs.Readings.{pdu_in}
use Rattle.lagsystem.specs.declared.drive.Reply.TheVariants as answer
use Rattle.lagsystem.specs.declared.received.Received.TheVariants.{TookLacpdu}
use Rattle.lagsystem.specs.Calls.{Receive, Step, Tick, Transmit}
use Rattle.lagsystem.specs.Sound.{IsSound}
use Rattle.lagsystem.specs.State.{SystemState, machines_of}
use Rattle.lagsystem.proofs.Sound.{Step-sound, answers}
use Rattle.lagscript.specs.declared.event.Event.TheVariants as event
use Rattle.lagworld.specs.declared.histories.PortHistory.{PortHistory}
use Rattle.lagworld.specs.declared.reply.Reply.{Reply}
use Rattle.lagworld.specs.declared.reply.Reply.TheVariants as reply
use Rattle.lagworld.specs.Events.{Algorithms, WorldSteps, sent_reply, set_last_lacpdu, stamped_in, transmitted_item}
use Rattle.lagworld.specs.HalfCalls.{HalfAnswers}
use Rattle.lagworld.specs.Making.{first_flows}
use Rattle.lagworld.specs.Messages.{payload_in}
use Rattle.lagworld.specs.State.{FlowValue, HalfState, ItemValue, LinkState, WorldState, towards}
use Rattle.laghosts.specs.HostEvents.{HostEvent, Plays}
use Rattle.lagprogress.specs.HostRounds.{AfterTick, RunReplies}
use Rattle.lagprogress.specs.LateRounds.{ArriveIn, IsLateRound}
use Rattle.lagprogress.specs.Rounds.{AtEnd, OfPort}
use Rattle.law_can_come_up.specs.Together.{wire}

abbrev pub flows : List (List FlowValue)
flows = first_flows 1 256

abbrev pub side : SystemState → List PortHistory → HalfState
side s hs = record { state = s; histories = hs; flows = flows }

abbrev pub carrying_wire : List ItemValue → List ItemValue → LinkState
carrying_wire xs ys = record { one = 1; two = 1; whole = true; to_one = xs; to_two = ys; limit_one = None; limit_two = None }

abbrev pub world : SystemState → SystemState → List PortHistory → List PortHistory → List ItemValue → List ItemValue → ℕ → WorldState
world s t hs ks xs ys n = record { one = side s hs; two = side t ks; links = carrying_wire xs ys ∷ []; acted = n }

abbrev pub NoneDue : SystemState → Type 0
NoneDue s = OfPort (λ (p : Machines). is_due p ≡ false) (machines_of 1 s)

-- what holds of the cable holds of each cable that is there
pub at_wire : (P : LinkState → Type 0) (i : ℕ) (l : LinkState) → slice_get (wire ∷ []) i ≡ Some l → P wire → P l
at_wire P zero l e h = subst P (same_Some wire l e) h
at_wire P (suc i) l e h = absurd (none-some l e)

pub half_ticks : (gives : ℕ → ℕ → ℕ → Type 0) (s t : SystemState) (hs : List PortHistory) → IsSound s → Step gives s Tick answer.Tick t
    → HalfAnswers gives Tick answer.Tick (side s hs) (side t hs)
half_ticks gives s t hs sound h = record { answers = answers gives s Tick answer.Tick t h sound; same = refl }

pub ticks_one : (gives : Algorithms) (s t r : SystemState) (hs ks : List PortHistory) (n : ℕ) → IsSound s → Step (gives One) s Tick answer.Tick t
    → WorldSteps gives (world s r hs ks [] [] n) (event.Tick 1 1) reply.Ticked (world t r hs ks [] [] (n + 1))
ticks_one gives s t r hs ks n sound h = ((((side s hs, refl, half_ticks (gives One) s t hs sound h), refl), refl), refl)

pub ticks_two : (gives : Algorithms) (r s t : SystemState) (hs ks : List PortHistory) (n : ℕ) → IsSound s → Step (gives Two) s Tick answer.Tick t
    → WorldSteps gives (world r s hs ks [] [] n) (event.Tick 2 1) reply.Ticked (world r t hs ks [] [] (n + 1))
ticks_two gives r s t hs ks n sound h = ((((side s ks, refl, half_ticks (gives Two) s t ks sound h), refl), refl), refl)

-- a round in which nothing is sent

abbrev pub quiet_events : List HostEvent
quiet_events = Plays (event.Tick 1 1) ∷ Plays (event.Tick 2 1) ∷ []

abbrev pub quiet_replies : List Reply
quiet_replies = reply.Ticked ∷ reply.Ticked ∷ []

pub quiet_arrive : (s : Side) (i : ℕ) → ArriveIn (length (towards s wire)) s i quiet_events
quiet_arrive One i = tt
quiet_arrive Two i = tt

module _ (gives : Algorithms) (s t s' t' : SystemState) (hs ks : List PortHistory) (n : ℕ) (sound_s : IsSound s) (sound_t : IsSound t)
    (h : Step (gives One) s Tick answer.Tick s') (k : Step (gives Two) t Tick answer.Tick t') where
  abbrev pub quiet_acts : RunReplies gives (world s t hs ks [] [] n) quiet_events quiet_replies (world s' t' hs ks [] [] (n + 1 + 1))
  quiet_acts = (
    world s' t hs ks [] [] (n + 1),
    ticks_one gives s s' t hs ks n sound_s h,
    (world s' t' hs ks [] [] (n + 1 + 1), ticks_two gives s' t t' hs ks (n + 1) sound_t k, refl),
  )

  abbrev pub QuietAsked : Side → LinkState → Type 0
  QuietAsked a l = AfterTick a (λ j. AtEnd (λ (p : Machines). is_due p ≡ false) a l j) gives quiet_events quiet_replies
      (world s t hs ks [] [] n) (world s' t' hs ks [] [] (n + 1 + 1)) quiet_acts

  pub quiet_asked : NoneDue s' → NoneDue t' → (a : Side) → QuietAsked a wire
  quiet_asked due_s due_t One = inl ((1, refl, refl), inl due_s)
  quiet_asked due_s due_t Two = inr (inl ((2, refl, refl), due_t))

  pub quiet_round : NoneDue s' → NoneDue t' → IsLateRound gives (world s t hs ks [] [] n) (world s' t' hs ks [] [] (n + 1 + 1))
  quiet_round due_s due_t = record {
    events = quiet_events;
    replies = quiet_replies;
    ticks = inl ((1, refl, refl), refl, inr (inl ((2, refl, refl), refl, (refl, refl))));
    acts = quiet_acts;
    asked = λ a i l healthy. at_wire (QuietAsked a) i l healthy.there (quiet_asked due_s due_t a);
    empties = λ a i l healthy. at_wire (λ m. ArriveIn (length (towards a m)) a i quiet_events) i l healthy.there (quiet_arrive a i);
  }

-- a round in which each system sends an LACPDU, which arrives

abbrev pub frame_events : List HostEvent
frame_events = Plays (event.Tick 1 1) ∷ Plays (event.Tick 2 1) ∷ Plays (event.Emit 1 1) ∷ Plays (event.Emit 2 1) ∷ Plays (event.Deliver 1 2)
    ∷ Plays (event.Deliver 1 1) ∷ []

pub frame_arrive : (s : Side) (i : ℕ) → ArriveIn (length (towards s wire)) s i frame_events
frame_arrive One i = tt
frame_arrive Two i = tt

-- what one system does in it: its states at first, and behind its tick, the frame that it sends, and the one that comes
pub record Does (gives : ℕ → ℕ → ℕ → Type 0) (s s₁ s₂ s₃ : SystemState) (sent came : List ℕ) : Type 0 where
  pub sound : IsSound s
  pub ticks : Step gives s Tick answer.Tick s₁
  pub sends : Step gives s₁ (Transmit 1) (answer.Transmit (Ok (Some sent))) s₂
  pub takes : Step gives s₂ (Receive 1 came) (answer.Receive (Ok TookLacpdu)) s₃
  pub none : NoneDue s₂

pub sound₁ : (gives : ℕ → ℕ → ℕ → Type 0) (s s₁ s₂ s₃ : SystemState) (sent came : List ℕ) → Does gives s s₁ s₂ s₃ sent came → IsSound s₁
sound₁ gives s s₁ s₂ s₃ sent came d = Step-sound gives s Tick answer.Tick s₁ d.ticks d.sound

pub sound₂ : (gives : ℕ → ℕ → ℕ → Type 0) (s s₁ s₂ s₃ : SystemState) (sent came : List ℕ) → Does gives s s₁ s₂ s₃ sent came → IsSound s₂
sound₂ gives s s₁ s₂ s₃ sent came d =
    Step-sound gives s₁ (Transmit 1) (answer.Transmit (Ok (Some sent))) s₂ d.sends (sound₁ gives s s₁ s₂ s₃ sent came d)

pub sound₃ : (gives : ℕ → ℕ → ℕ → Type 0) (s s₁ s₂ s₃ : SystemState) (sent came : List ℕ) → Does gives s s₁ s₂ s₃ sent came → IsSound s₃
sound₃ gives s s₁ s₂ s₃ sent came d =
    Step-sound gives s₂ (Receive 1 came) (answer.Receive (Ok TookLacpdu)) s₃ d.takes (sound₂ gives s s₁ s₂ s₃ sent came d)

module _ (gives : Algorithms) (s s₁ s₂ s₃ t t₁ t₂ t₃ : SystemState) (f g : List ℕ) (hs ks : List PortHistory) (n : ℕ)
    (d : Does (gives One) s s₁ s₂ s₃ f g) (e : Does (gives Two) t t₁ t₂ t₃ g f) where
  abbrev pub out : ItemValue
  out = transmitted_item One 1 f (side s₂ hs)

  abbrev pub back : ItemValue
  back = transmitted_item Two 1 g (side t₂ ks)

  abbrev pub ks' : List PortHistory
  ks' = set_last_lacpdu 1 (stamped_in out) ks

  abbrev pub hs' : List PortHistory
  hs' = set_last_lacpdu 1 (stamped_in back) hs

  pub emits_one : WorldSteps gives (world s₁ t₁ hs ks [] [] (n + 1 + 1)) (event.Emit 1 1) (sent_reply (pdu_in (payload_in f)) true)
      (world s₂ t₁ hs ks [] (out ∷ []) (n + 1 + 1 + 1))
  emits_one = (
    (
      Ok (Some f),
      side s₂ hs,
      record { answers = answers (gives One) s₁ (Transmit 1) (answer.Transmit (Ok (Some f))) s₂ d.sends (sound₁ (gives One) s s₁ s₂ s₃ f g d); same = refl },
      (refl, refl),
    ),
    refl,
  )

  pub emits_two : WorldSteps gives (world s₂ t₁ hs ks [] (out ∷ []) (n + 1 + 1 + 1)) (event.Emit 2 1) (sent_reply (pdu_in (payload_in g)) true)
      (world s₂ t₂ hs ks (back ∷ []) (out ∷ []) (n + 1 + 1 + 1 + 1))
  emits_two = (
    (
      Ok (Some g),
      side t₂ ks,
      record { answers = answers (gives Two) t₁ (Transmit 1) (answer.Transmit (Ok (Some g))) t₂ e.sends (sound₁ (gives Two) t t₁ t₂ t₃ g f e); same = refl },
      (refl, refl),
    ),
    refl,
  )

  pub comes_two : WorldSteps gives (world s₂ t₂ hs ks (back ∷ []) (out ∷ []) (n + 1 + 1 + 1 + 1)) (event.Deliver 1 2) reply.Took
      (world s₂ t₃ hs ks' (back ∷ []) [] (n + 1 + 1 + 1 + 1 + 1))
  comes_two = (
    (
      Ok TookLacpdu,
      side t₃ ks,
      record { answers = answers (gives Two) t₂ (Receive 1 f) (answer.Receive (Ok TookLacpdu)) t₃ e.takes (sound₂ (gives Two) t t₁ t₂ t₃ g f e); same = refl },
      (refl, refl),
    ),
    refl,
  )

  pub comes_one : WorldSteps gives (world s₂ t₃ hs ks' (back ∷ []) [] (n + 1 + 1 + 1 + 1 + 1)) (event.Deliver 1 1) reply.Took
      (world s₃ t₃ hs' ks' [] [] (n + 1 + 1 + 1 + 1 + 1 + 1))
  comes_one = (
    (
      Ok TookLacpdu,
      side s₃ hs,
      record { answers = answers (gives One) s₂ (Receive 1 g) (answer.Receive (Ok TookLacpdu)) s₃ d.takes (sound₂ (gives One) s s₁ s₂ s₃ f g d); same = refl },
      (refl, refl),
    ),
    refl,
  )

  abbrev pub frame_replies : List Reply
  frame_replies = reply.Ticked ∷ reply.Ticked ∷ sent_reply (pdu_in (payload_in f)) true ∷ sent_reply (pdu_in (payload_in g)) true ∷ reply.Took ∷ reply.Took ∷ []

  abbrev pub last_world : WorldState
  last_world = world s₃ t₃ hs' ks' [] [] (n + 1 + 1 + 1 + 1 + 1 + 1)

  abbrev pub frame_acts : RunReplies gives (world s t hs ks [] [] n) frame_events frame_replies last_world
  frame_acts = (
    world s₁ t hs ks [] [] (n + 1),
    ticks_one gives s s₁ t hs ks n d.sound d.ticks,
    (
      world s₁ t₁ hs ks [] [] (n + 1 + 1),
      ticks_two gives s₁ t t₁ hs ks (n + 1) e.sound e.ticks,
      (
        world s₂ t₁ hs ks [] (out ∷ []) (n + 1 + 1 + 1),
        emits_one,
        (
          world s₂ t₂ hs ks (back ∷ []) (out ∷ []) (n + 1 + 1 + 1 + 1),
          emits_two,
          (world s₂ t₃ hs ks' (back ∷ []) [] (n + 1 + 1 + 1 + 1 + 1), comes_two, (last_world, comes_one, refl)),
        ),
      ),
    ),
  )

  abbrev pub FrameAsked : Side → LinkState → Type 0
  FrameAsked a l = AfterTick a (λ j. AtEnd (λ (p : Machines). is_due p ≡ false) a l j) gives frame_events frame_replies
      (world s t hs ks [] [] n) last_world frame_acts

  pub frame_asked : (a : Side) → FrameAsked a wire
  frame_asked One = inl ((1, refl, refl), inr (inr (inl d.none)))
  frame_asked Two = inr (inl ((2, refl, refl), inr (inr (inl e.none))))

  pub frame_round : IsLateRound gives (world s t hs ks [] [] n) (world s₃ t₃ hs' ks' [] [] (n + 1 + 1 + 1 + 1 + 1 + 1))
  frame_round = record {
    events = frame_events;
    replies = frame_replies;
    ticks = inl ((1, refl, refl), refl, inr (inl ((2, refl, refl), refl, inr (inr (tt, inr (inr (tt, inr (inr (tt, inr (inr (tt, (refl, refl))))))))))));
    acts = frame_acts;
    asked = λ a i l healthy. at_wire (FrameAsked a) i l healthy.there (frame_asked a);
    empties = λ a i l healthy. at_wire (λ m. ArriveIn (length (towards a m)) a i frame_events) i l healthy.there (frame_arrive a i);
  }
