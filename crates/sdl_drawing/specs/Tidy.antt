-- How the shapes of a block diagram stand. (This project's own, after the ladder rule.)
use Rattle.std.specs.Prelude.{◌≡◌, ◌≢◌, ℕ, ◌<◌, ◌≤◌, min, max, Bool, List, slice_get, IsSomeAnd, IsTrue, ◌↔◌, All, ◌⊎◌}
use Rattle.sdl_structure_parts.specs.declared.parts.End.{End}
use Rattle.sdl_structure_parts.specs.declared.parts.Side.{Side}
use Rattle.sdl_structure_parts.specs.declared.parts.Side.TheVariants.{Outer, Inner}
use Rattle.sdl_structure_parts.specs.Structure.{Structure, channel_at}
use Rattle.sdl_drawing.specs.declared.shapes.Rect.{Rect}
use Rattle.sdl_drawing.specs.declared.shapes.Frame.{Frame}
use Rattle.sdl_drawing.specs.declared.shapes.GateBox.{GateBox}
use Rattle.sdl_drawing.specs.declared.shapes.Meeting.{Meeting}
use Rattle.sdl_drawing.specs.declared.shapes.ChannelLine.{ChannelLine}
use Rattle.sdl_drawing.specs.declared.shapes.Drawing.{Drawing}
use Rattle.sdl_drawing.specs.Shown.{LiesIn, AreSiblings, IsGateOf, IsChannelIn}

-- a rectangle lies inside another
abbrev pub IsInside : Rect → Rect → Type 0
IsInside inner outer = (outer.left ≤ inner.left) × (outer.top ≤ inner.top) × (inner.right ≤ outer.right) × (inner.bottom ≤ outer.bottom)

-- two rectangles are beside each other, or one above the other
abbrev pub AreBeside : Rect → Rect → Type 0
AreBeside one other = (one.right ≤ other.left) ⊎ (other.right ≤ one.left) ⊎ (one.bottom ≤ other.top) ⊎ (other.bottom ≤ one.top)

-- the frame of an agent is inside the frame of the agent in which it lies
unfoldable pub StandsIn : Structure → Frame → Frame → Type 0
StandsIn s frame around = LiesIn s frame.agent around.agent → IsInside frame.rect around.rect

-- the frames of two agents that lie in the same agent are beside each other
abbrev pub IsBeside : Frame → Frame → Type 0
IsBeside one other = (one.agent ≡ other.agent) ⊎ AreBeside one.rect other.rect

unfoldable pub AreApart : Structure → Frame → Frame → Type 0
AreApart s one other = AreSiblings s one.agent other.agent → IsBeside one other

-- a box stands on the left border of a frame
abbrev pub IsOnBorder : Rect → Rect → Type 0
IsOnBorder gate frame = (gate.left ≤ frame.left) × (frame.left ≤ gate.right) × (frame.top ≤ gate.top) × (gate.bottom ≤ frame.bottom)

-- a gate stands on the border of its agent
unfoldable pub StandsOn : Structure → GateBox → Frame → Type 0
StandsOn s gate frame = IsGateOf s gate.gate frame.agent → IsOnBorder gate.rect frame.rect

-- a line meets the box of a gate at its left where it comes from outside, and at its right from inside
abbrev pub IsAtSide : Meeting → Rect → Side → Type 0
IsAtSide meeting gate Outer = (meeting.x ≡ gate.left) × (gate.top ≤ meeting.y) × (meeting.y ≤ gate.bottom)
IsAtSide meeting gate Inner = (meeting.x ≡ gate.right) × (gate.top ≤ meeting.y) × (meeting.y ≤ gate.bottom)

-- a line meets the gate at which its channel ends (the boxes stand by the gates' numbers)
abbrev pub MeetsGate : List GateBox → End → Meeting → Type 0
MeetsGate gates end meeting = IsSomeAnd (slice_get gates end.gate.0) (λ g. IsAtSide meeting g.rect end.side)

unfoldable pub JoinsGates : Structure → List GateBox → ChannelLine → Type 0
JoinsGates s gates line = IsSomeAnd (channel_at s line.channel) (λ c. MeetsGate gates c.first line.first × MeetsGate gates c.second line.second)

-- An arrow head lies in the level part of its line, and points at the gate. It is right before the gate where the channel has no
-- delay, and else away from it.
abbrev pub PointsAtGate : Meeting → ℕ → Type 0
PointsAtGate m track =
    ((m.x ≤ m.head.tip.x) × (m.head.tip.x < m.head.foot) × (m.head.foot ≤ track))
    ⊎ ((track ≤ m.head.foot) × (m.head.foot < m.head.tip.x) × (m.head.tip.x ≤ m.x))

abbrev pub HasHead : Bool → ℕ → Meeting → Type 0
HasHead nodelay track m = (m.head.tip.y ≡ m.y) × PointsAtGate m track × (IsTrue nodelay ↔ (m.head.tip.x ≡ m.x))

unfoldable pub HasHeads : Structure → ChannelLine → Type 0
HasHeads s line = IsSomeAnd (channel_at s line.channel) (λ c. HasHead c.nodelay line.track line.first × HasHead c.nodelay line.track line.second)

-- a line is inside the frame of the agent in which its channel lies
abbrev pub IsPointInside : ℕ → ℕ → Rect → Type 0
IsPointInside x y r = (r.left ≤ x) × (x ≤ r.right) × (r.top ≤ y) × (y ≤ r.bottom)

abbrev pub IsLineInside : ChannelLine → Rect → Type 0
IsLineInside l r =
    IsPointInside l.first.x l.first.y r × IsPointInside l.track l.first.y r × IsPointInside l.track l.second.y r
    × IsPointInside l.second.x l.second.y r

unfoldable pub StaysIn : Structure → ChannelLine → Frame → Type 0
StaysIn s line frame = IsChannelIn s line.channel frame.agent → IsLineInside line frame.rect

-- two level parts, each from where a line meets a gate to its track, have other heights, or one ends before the other begins
unfoldable pub AreLevelsApart : Meeting → ℕ → Meeting → ℕ → Type 0
AreLevelsApart one track other other_track =
    (one.y ≢ other.y) ⊎ (max one.x track ≤ min other.x other_track) ⊎ (max other.x other_track ≤ min one.x track)

-- the upright parts of two lines have other tracks, or one ends above the other
unfoldable pub AreTracksApart : ChannelLine → ChannelLine → Type 0
AreTracksApart one other =
    (one.track ≢ other.track) ⊎ (max one.first.y one.second.y ≤ min other.first.y other.second.y)
    ⊎ (max other.first.y other.second.y ≤ min one.first.y one.second.y)

-- each level part of a line is apart from both of the other
unfoldable pub AreEndsApart : Meeting → ℕ → ChannelLine → Type 0
AreEndsApart one track other = AreLevelsApart one track other.first other.track × AreLevelsApart one track other.second other.track

-- no part of a line runs along a part of the other: the two have single points in common at most
abbrev pub ShareNoStretch : ChannelLine → ChannelLine → Type 0
ShareNoStretch one other = AreTracksApart one other × AreEndsApart one.first one.track other × AreEndsApart one.second one.track other

-- the lines of two channels cross at most
unfoldable pub CrossAtMost : ChannelLine → ChannelLine → Type 0
CrossAtMost one other = (one.channel ≡ other.channel) ⊎ ShareNoStretch one other

-- each frame is inside that of the agent around it
unfoldable pub AllFramesInside : Structure → List Frame → Type 0
AllFramesInside s frames = All (λ f. All (λ g. StandsIn s f g) frames) frames

-- the frames of agents that lie in the same agent are beside each other
unfoldable pub AllFramesApart : Structure → List Frame → Type 0
AllFramesApart s frames = All (λ f. All (λ g. AreApart s f g) frames) frames

-- each gate stands on the border of its agent
unfoldable pub AllGatesOnBorders : Structure → List Frame → List GateBox → Type 0
AllGatesOnBorders s frames gates = All (λ g. All (λ f. StandsOn s g f) frames) gates

-- each line joins the gates that its channel joins, with the arrow heads of its paths
unfoldable pub AllLinesJoin : Structure → List GateBox → List ChannelLine → Type 0
AllLinesJoin s gates lines = All (λ l. JoinsGates s gates l) lines

unfoldable pub AllLinesHaveHeads : Structure → List ChannelLine → Type 0
AllLinesHaveHeads s lines = All (λ l. HasHeads s l) lines

-- each line stays in the frame in which its channel lies
unfoldable pub AllLinesStayIn : Structure → List Frame → List ChannelLine → Type 0
AllLinesStayIn s frames lines = All (λ l. All (λ f. StaysIn s l f) frames) lines

-- no two lines share a stretch
unfoldable pub AllLinesCrossAtMost : List ChannelLine → Type 0
AllLinesCrossAtMost lines = All (λ l. All (λ m. CrossAtMost l m) lines) lines

pub record AreFramesTidy (s : Structure) (frames : List Frame) (gates : List GateBox) : Type 0 where
  pub inside : AllFramesInside s frames
  pub apart : AllFramesApart s frames
  pub on_borders : AllGatesOnBorders s frames gates

pub record AreLinesTidy (s : Structure) (frames : List Frame) (gates : List GateBox) (lines : List ChannelLine) : Type 0 where
  pub joined : AllLinesJoin s gates lines
  pub headed : AllLinesHaveHeads s lines
  pub staying : AllLinesStayIn s frames lines
  pub crossing : AllLinesCrossAtMost lines

-- a rectangle has an area, and is on the sheet of this size
abbrev pub IsOnSheet : ℕ → ℕ → Rect → Type 0
IsOnSheet width height r = (r.left < r.right) × (r.top < r.bottom) × (r.right ≤ width) × (r.bottom ≤ height)

-- all frames and all boxes are on the sheet
unfoldable pub AllFramesOnSheet : ℕ → ℕ → List Frame → Type 0
AllFramesOnSheet width height frames = All (λ f. IsOnSheet width height f.rect) frames

unfoldable pub AllGatesOnSheet : ℕ → ℕ → List GateBox → Type 0
AllGatesOnSheet width height gates = All (λ g. IsOnSheet width height g.rect) gates

-- all shapes stand as they have to
pub record IsTidy (s : Structure) (d : Drawing) : Type 0 where
  pub frames_on_sheet : AllFramesOnSheet d.width d.height d.frames.items
  pub gates_on_sheet : AllGatesOnSheet d.width d.height d.gates.items
  pub frames : AreFramesTidy s d.frames.items d.gates.items
  pub lines : AreLinesTidy s d.frames.items d.gates.items d.channels.items
