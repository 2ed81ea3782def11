-- What a conversation writes (Language Server Protocol 3.17, "Base Protocol").
use Rattle.std.specs.Prelude.{◌≡◌, List, Option}
use Rattle.std.specs.List.{flat_map}
use Rattle.lus_devices.specs.Devices.{Bytes, WritesBeginning, with_text}
use Rattle.lus_framing.specs.Frames.{frame_text}

-- messages in their frames, each whole
abbrev pub HasSaid : Option Bytes → Option Bytes → Type 0
HasSaid old new = (said : List Bytes) × (new ≡ with_text old (flat_map frame_text said))

-- messages in their frames, each whole but perhaps the last
abbrev pub WritesFrames : Option Bytes → Option Bytes → Type 0
WritesFrames old new = (now : Option Bytes) × (last : Bytes) × HasSaid old now × WritesBeginning now new (frame_text last)
