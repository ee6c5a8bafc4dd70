-- What is read off the named form of a series, the struct of start and coefficients: a series, and a build's inputs. Assumes nothing: these are definitions.
use Rattle.std.specs.Prelude.{List, ℤ}
use Rattle.series.specs.declared.Body.{Body}
use Rattle.series.specs.Series as paper
use Rattle.inputs.specs.Inputs.{Inputs, inputs}
use Rattle.forms.specs.declared.Series.{Series}

-- a body's series
abbrev pub series_of : Body → Series → paper.Series
series_of body s = paper.series body s.start.0 s.coefs.now

-- a build's inputs: the leap table, the Sun and the Moon
abbrev pub inputs_of : List ℤ → Series → Series → Inputs
inputs_of leap sun moon = inputs leap sun.start.0 sun.coefs.now moon.start.0 moon.coefs.now
