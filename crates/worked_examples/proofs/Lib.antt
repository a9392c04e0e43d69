mod ClaimTests
mod FitTests
