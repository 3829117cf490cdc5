-- What a world and a cable become when what was borrowed of them was changed.
use Rattle.std.specs.Borrow.{Fml, Lends, MutBor, RattleType}
use Rattle.lagworld.specs.Sides.{model_side}
use Rattle.lagworld.specs.State.{by_side}
use Rattle.lagworld.specs.contracts.half.Half.{the_row as half_row}
use Rattle.lagworld.specs.contracts.inner.Inner.{the_row as inner_row}
use Rattle.lagworld.specs.contracts.link.Link.{the_row as link_row}
use Rattle.lagworld.specs.declared.half.Half.{Half}
use Rattle.lagworld.specs.declared.inner.Inner.{Inner}
use Rattle.lagworld.specs.declared.link.Link.{Link as Cabled}
use Rattle.lagworld.specs.declared.side.Side.{Side as CodeSide}

-- the half of a system
abbrev pub half_of : {C F : Type 0} → CodeSide → Inner C F → Half F
half_of s w = by_side (model_side s) w.one w.two

-- the world, with this half in the place of a system's
abbrev pub with_half_of : {C F : Type 0} → CodeSide → Half F → Inner C F → Inner C F
with_half_of s h w = record w { one = by_side (model_side s) h w.one; two = by_side (model_side s) w.two h }

-- the cable, with this in the place of what is on it towards a system
abbrev pub with_direction : {C : Type 0} → CodeSide → C → Cabled C → Cabled C
with_direction s d l = record l { to_one = by_side (model_side s) d l.to_one; to_two = by_side (model_side s) l.to_two d }

module _ (C : RattleType) where
  -- once the borrow ends, the direction is what it was left as, and nothing else of the cable changed
  abbrev pub LendsDirection : MutBor (Cabled C.Denot) → CodeSide → MutBor C.Denot → Fml
  LendsDirection l s r = Lends (link_row C) C l r (λ d. with_direction s d l.now)

  -- once the borrow ends, the half is what it was left as, and nothing else of the world changed
  abbrev pub LendsHalf : (F : RattleType) → MutBor (Inner C.Denot F.Denot) → CodeSide → MutBor (Half F.Denot) → Fml
  LendsHalf F w s r = Lends (inner_row C F) (half_row F) w r (λ h. with_half_of s h w.now)
