-- The configuration in a tree, if there is one that is an object.
use Rattle.std.specs.Prelude.{Option, codes, option_and_then}
use Rattle.serde_json.specs.Data.{Data, Members}
use Rattle.serde_json.specs.Find.{get, as_object}

abbrev pub configuration_in : Data → Option Members
configuration_in d = option_and_then as_object (get (codes "configuration") d)
