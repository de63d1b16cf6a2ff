-- The site in which a log is played.
use Rattle.std.specs.Prelude.{ℕ, pos, true, false, List, [], ◌∷◌, codes, None}
use Rattle.cts_def.specs.Protocols.{Preidentified, UseData}
use Rattle.cts_def.specs.Sites.{InterfaceData, SiteData, targets_of}

-- one PREIDENTIFIED of this layout that reads, without a sync pattern
abbrev pub play_chain : ℕ → List UseData
play_chain layout = record { spec = Preidentified (record { sync = []; max = None; layout = layout }); reads = true; writes = false } ∷ []

-- an interface with these targets that is not logged
abbrev pub play_interface : ℕ → List (List ℕ) → InterfaceData
play_interface layout targets = record {
  name = codes "PLAY";
  aim_host = [];
  port = 1;
  serves = true;
  targets = targets;
  chain = play_chain layout;
  reconnect = false;
  delay = record { parts = pos 0 };
  logged = false;
}

-- the same definitions, and this interface alone, with all targets of the site's interfaces
abbrev pub played : ℕ → SiteData → SiteData
played layout site = record {
  definitions = site.definitions;
  interfaces = play_interface layout (targets_of site.interfaces) ∷ [];
  routers = [];
  api_port = site.api_port;
  desks = site.desks;
  log_layout = layout;
  log_cycle = None;
}
